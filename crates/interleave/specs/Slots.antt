-- The slots of one word (document 01, Block interleaver and frame): byte i of word w goes to slot i·J + w. A block's words are taken from
-- their slots, and put to them, one at a time; they are those of `spread` and `gather`.
-- Assumes nothing.
use Rattle.std.specs.Prelude.{◌≡◌, List, ◌++◌, ℕ, ◌+◌, ◌*◌, ◌/◌, ◌%◌, ◌≤◌, ◌<◌, length, set, take, drop, T}
use Rattle.std.proofs.Math.Path.{refl}
use Rattle.std.proofs.Common.{sym, ap, ◌∙◌, not-suc-le-zero, div-add-mod', div-lt_iff_lt-mul, mod-lt, arith, below_more, length-set, length-append, length-drop, get_or-set_same, get_or-set_other, take_at, length-take-le}
use Rattle.std.proofs.Math.Decide.{ℕ_discrete}
use Rattle.algebra.specs.Tests.{at, below, below_at, below_all}
use Rattle.algebra.specs.Lists.{tabulate, length_tabulate, get_or_tabulate, tabulated, Copied, joined, joined_at}
use Rattle.interleave.specs.Block as block
use Rattle.interleave.specs.Block.{transposed, spread, gather, low, high, in_block, slot_rule}

-- byte i of word w
abbrev pub slot_byte : ℕ → ℕ → List ℕ → ℕ → ℕ
slot_byte J w slots i = at slots (i * J + w)

-- word w of the slots
unfoldable pub word_in : ℕ → ℕ → List ℕ → ℕ → List ℕ
word_in J n slots w = tabulate n (slot_byte J w slots)

-- these slots have a word w of n bytes, as the code's work space holds it
pub record HasWord (J n w slots : ℕ) : Type 0 where
  pub turn : w < J
  pub few : J ≤ 16
  pub short : n ≤ 255
  pub size : slots ≡ n * J

-- `take_word`: the word in front of an array of 255 bytes
pub record TakesWord (J n w : ℕ) (slots r : List ℕ) : Type 0 where
  pub size : length r ≡ 255
  pub word : take n r ≡ word_in J n slots w
  pub bytes : T (below 256 (take n r))

-- the first s bytes of a word are in its slots, and the other words' slots are as they were
pub record Placed (J w : ℕ) (word slots : List ℕ) (s : ℕ) (left : List ℕ) : Type 0 where
  pub size : length left ≡ length slots
  pub here : (i : ℕ) → i < s → at left (i * J + w) ≡ at word i
  pub others : (t : ℕ) → (t % J ≡ w → ⊥) → at left t ≡ at slots t

-- `put_word`: all of them are
abbrev pub PutsWord : (J w : ℕ) (word slots left : List ℕ) → Type 0
PutsWord J w word slots left = Placed J w word slots (length word) left

-- ---- a word that is taken

-- the slot of byte i is one of the block's
pub in_slots : (i w J n size : ℕ) → i < n → w < J → size ≡ n * J → i * J + w < size
in_slots i w J n size h k e = rw e (in_block i w J n h k)

module _ (J n : ℕ) (slots : List ℕ) (w : ℕ) where
  pub word_rule : word_in J n slots w ≡ tabulate n (slot_byte J w slots)
  unfolding word_in
  word_rule = refl

  pub length_word : length (word_in J n slots w) ≡ n
  length_word = rw word_rule (length_tabulate n (slot_byte J w slots))

  word_at : (i : ℕ) → i < n → at (word_in J n slots w) i ≡ at slots (i * J + w)
  word_at i h = rw word_rule (get_or_tabulate n (slot_byte J w slots) i 0 h)

  -- a bound on the slots is one on each word
  pub word_below : (q : ℕ) → 0 < q → T (below q slots) → T (below q (word_in J n slots w))
  word_below q h t = below_all q (word_in J n slots w) λ i l. rw (word_at i (omega (arith, length_word))) (below_at q slots t (i * J + w) h)

  -- the words are those of the interleaver's way back
  pub word_is_gathered : (i : ℕ) → i < n → w < J → at (word_in J n slots w) i ≡ at (gather J n slots) (w * n + i)
  word_is_gathered i h k = word_at i h ∙ sym (block.place_rule J n i w slots h k)

  -- the front of an array that the word was copied to
  pub taken : (old t : List ℕ) → n ≤ length old → Copied (length (take n old)) (slot_byte J w slots) t → length old ≡ 255 → TakesWord J n w slots (t ++ drop n old)
  taken old t room c full =
      let front : length (take n old) ≡ n = length-take-le n old room in
      let own : t ≡ word_in J n slots w = rw (word_rule, ← front) c.entries in
      let size : length t ≡ n = ap length own ∙ length_word in
      record {
        size = simp (length-append, length-drop) (omega (arith, size));
        word = rw (take_at t (drop n old) n size) own;
        bytes = rw (take_at t (drop n old) n size) c.small;
      }

-- the whole block, slot by slot
pub spread_rule : (J n : ℕ) (words : List ℕ) → spread J n words ≡ tabulate (n * J) (λ s. at words (s % J * n + s / J))
unfolding transposed
spread_rule J n words = refl

-- a word that was interleaved is taken again
pub word_back : (J n : ℕ) (f : ℕ → List ℕ) → ((w : ℕ) → w < J → length (f w) ≡ n) → (w : ℕ) → w < J → word_in J n (spread J n (joined J f)) w ≡ f w
word_back J n f h w k =
    word_rule J n _ w
    ∙ sym (tabulated (f w) n (slot_byte J w (spread J n (joined J f))) 0 (h w k) λ i u. sym (slot_rule J n i w (joined J f) u k ∙ joined_at n f J h w i k u))

-- ---- a word that is put

pub placed_none : (J w : ℕ) (word slots : List ℕ) → Placed J w word slots 0 slots
placed_none J w word slots = record { size = refl; here = λ i h. absurd (not-suc-le-zero h); others = λ t h. refl }

pub placed_more : (J w : ℕ) (word slots : List ℕ) (s : ℕ) (left : List ℕ) → w < J → s * J + w < length left
    → Placed J w word slots s left → Placed J w word slots (s + 1) (set left (s * J + w) (at word s))
placed_more J w word slots s left k l p = record {
  size = length-set left (s * J + w) (at word s) ∙ p.size;
  here = below_more (λ (i : ℕ). at (set left (s * J + w) (at word s)) (i * J + w) ≡ at word i) s
      (λ i h. get_or-set_other left (s * J + w) (i * J + w) (at word s) 0 (λ e. let q : i ≡ s = sym (high i w k) ∙ ap (λ (t : ℕ). t / J) e ∙ high s w k in omega arith) ∙ p.here i h)
      (get_or-set_same left (s * J + w) (at word s) 0 l);
  others = λ t h. get_or-set_other left (s * J + w) t (at word s) 0 (λ e. h (ap (λ (x : ℕ). x % J) e ∙ low s w k)) ∙ p.others t h;
}

-- ---- a loop that puts every word

-- the words f i below w are in their slots
pub record Putting (J n : ℕ) (f : ℕ → List ℕ) (w : ℕ) (slots : List ℕ) : Type 0 where
  pub size : length slots ≡ n * J
  pub sizes : (i : ℕ) → i < w → length (f i) ≡ n
  pub done : (t : ℕ) → t % J < w → t < n * J → at slots t ≡ at (f (t % J)) (t / J)

pub putting_none : (J n : ℕ) (f : ℕ → List ℕ) (slots : List ℕ) → length slots ≡ n * J → Putting J n f 0 slots
putting_none J n f slots e = record { size = e; sizes = λ i h. absurd (not-suc-le-zero h); done = λ t h. absurd (not-suc-le-zero h) }

module _ (J n : ℕ) (f : ℕ → List ℕ) (w : ℕ) where
  pub putting_more : (word slots left : List ℕ) → w < J → word ≡ f w → length word ≡ n → Putting J n f w slots → PutsWord J w word slots left
      → Putting J n f (w + 1) left
  putting_more word slots left k e l p q = record {
    size = q.size ∙ p.size;
    sizes = below_more (λ (i : ℕ). length (f i) ≡ n) w p.sizes (rw e at l);
    done = λ t h u. elim (ℕ_discrete (t % J) w) [
      | yes g ↦
          let a : t / J * J + w ≡ t = ap (λ (x : ℕ). t / J * J + x) (sym g) ∙ div-add-mod' t J in
          let j : 0 < J = omega arith in
          let b : t / J < length word = rw l ((div-lt_iff_lt-mul j).1 u) in
          sym (ap (at left) a) ∙ q.here (t / J) b ∙ ap (λ (x : List ℕ). at x (t / J)) (e ∙ ap f (sym g))
      | no g ↦ q.others t g ∙ p.done t (omega arith) u
    ];
  }

  -- all of them are the whole block, interleaved
  pub putting_all : (slots : List ℕ) → J ≤ w → 0 < J → Putting J n f w slots → slots ≡ spread J n (joined J f)
  putting_all slots h j p = rw spread_rule (tabulated slots (n * J) (λ t. at (joined J f) (t % J * n + t / J)) 0 p.size λ t u.
      let m : t % J < J = mod-lt t j in
      p.done t (omega arith) u ∙ sym (joined_at n f J (λ i l. p.sizes i (omega arith)) (t % J) (t / J) m ((div-lt_iff_lt-mul j).1 u)))
