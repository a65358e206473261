-- The block interleaver (document 01, Block interleaver and frame): columns filled and rows sent.
-- Assumes nothing.
use Rattle.std.specs.Prelude.{◌≡◌, refl, Result, Ok, Err, List, ℕ, zero, suc, ◌+◌, ◌*◌, ◌/◌, ◌%◌, ◌≤◌, ◌<◌, length, get_or}
use Rattle.std.proofs.Common.{sym, ap, ◌∙◌, not-suc-le-zero, mul-le-mul_right, suc-mul, mul-zero, add-zero, mod-eq_of_lt, mod-lt, div-lt_iff_lt-mul, div-add-mod', arith, ext_get_or}
use Rattle.std.proofs.Math.Logic.Dec
use Rattle.std.proofs.Math.Nat.{mul-add-mod_self_right, mul-add-div_right, div-eq_of_lt}
use Rattle.std.proofs.Math.Decide.{ℕ_discrete, dec_le}
use Rattle.algebra.specs.Lists.{tabulate, length_tabulate, get_or_tabulate}
use Rattle.algebra.specs.Refusal.{need, need_yes, need_zero, need_either, if_zero}
use Rattle.interleave.specs.Numbers.{block_number, block_error, number_of, block_numbered}
use Rattle.interleave.specs.declared.block.BlockError.{BlockError}

-- m rows of n bytes as n rows of m: place i * m + w has byte i of row w
unfoldable pub transposed : ℕ → ℕ → List ℕ → List ℕ
transposed m n x = tabulate (n * m) λ s. get_or x (s % m * n + s / m) 0

-- J words of n bytes, end to end, as slots; and slots as words
abbrev pub spread : ℕ → ℕ → List ℕ → List ℕ
spread J n words = transposed J n words

abbrev pub gather : ℕ → ℕ → List ℕ → List ℕ
gather J n slots = transposed n J slots

-- the limits of an interleaver called alone
pub record BlockSetting (J n : ℕ) : Type 0 where
  pub depth : (1 ≤ J) × (J ≤ 16)
  pub size : (3 ≤ n) × (n ≤ 255)

pub block_setting? : (J n : ℕ) → Dec (BlockSetting J n)
block_setting? J n = elim (Dec.and (Dec.and (dec_le 1 J) (dec_le J 16)) (Dec.and (dec_le 3 n) (dec_le n 255))) [
  | yes p ↦ yes record { depth = p.0; size = p.1 }
  | no p ↦ no λ s. p (s.depth, s.size)
]

-- the number answered for buffers of these lengths
unfoldable pub block_refusal : ℕ → ℕ → ℕ → ℕ → ℕ
block_refusal J n source target =
    need (block_setting? J n) 1 (need (ℕ_discrete source (J * n)) 2 (need (ℕ_discrete target (J * n)) 2 0))

-- what `spread` and `gather` answer, and what they leave in the target
abbrev pub Given : Type 0
Given = Result (Unit {0}) BlockError × List ℕ

unfoldable pub spreading : ℕ → ℕ → List ℕ → List ℕ → Given
spreading J n words slots = let k = block_refusal J n (length words) (length slots) in if_zero k (Ok tt, spread J n words) (Err (block_error k), slots)

unfoldable pub gathering : ℕ → ℕ → List ℕ → List ℕ → Given
gathering J n slots words = let k = block_refusal J n (length slots) (length words) in if_zero k (Ok tt, gather J n slots) (Err (block_error k), words)

pub record Spread (J n : ℕ) (words slots : List ℕ) (r : Result (Unit {0}) BlockError) (left : List ℕ) : Type 0 where
  pub outcome : ◌≡◌ {A = Given} (r, left) (spreading J n words slots)

pub record Gather (J n : ℕ) (slots words : List ℕ) (r : Result (Unit {0}) BlockError) (left : List ℕ) : Type 0 where
  pub outcome : ◌≡◌ {A = Given} (r, left) (gathering J n slots words)

both : (r s : Result (Unit {0}) BlockError) (x y : List ℕ) → ◌≡◌ {A = Given} (r, x) (s, y) → (r ≡ s) × (x ≡ y)
both r s x y e = (ap (λ (z : Given). z.0) e, ap (λ (z : Given). z.1) e)

-- No second answer meets the promise of `spread`, and none that of `gather`.
pub spread_once : (J n : ℕ) (words slots : List ℕ) (r s : Result (Unit {0}) BlockError) (x y : List ℕ) → Spread J n words slots r x → Spread J n words slots s y → (r ≡ s) × (x ≡ y)
spread_once J n words slots r s x y p q = both r s x y (p.outcome ∙ sym q.outcome)

pub gather_once : (J n : ℕ) (slots words : List ℕ) (r s : Result (Unit {0}) BlockError) (x y : List ℕ) → Gather J n slots words r x → Gather J n slots words s y → (r ≡ s) × (x ≡ y)
gather_once J n slots words r s x y p q = both r s x y (p.outcome ∙ sym q.outcome)

-- ---- laws

-- The answer's number is the paper's.
block_most : (J n source target : ℕ) → block_refusal J n source target ≤ 2
unfolding block_refusal
block_most J n source target =
    need_either _ 1 _ (λ z. z ≤ 2) (omega arith) (need_either _ 2 _ (λ z. z ≤ 2) (omega arith) (need_either _ 2 0 (λ z. z ≤ 2) (omega arith) (omega arith)))

pub spread_number : (J n : ℕ) (words slots : List ℕ) (r : Result (Unit {0}) BlockError) (left : List ℕ) → Spread J n words slots r left
    → number_of block_number r ≡ block_refusal J n (length words) (length slots)
unfolding spreading
spread_number J n words slots r left p =
    ap (λ (z : Given). number_of block_number z.0) p.outcome ∙ block_numbered (λ (z : Given). z.0) _ _ _ (block_most J n (length words) (length slots)) refl refl

pub gather_number : (J n : ℕ) (slots words : List ℕ) (r : Result (Unit {0}) BlockError) (left : List ℕ) → Gather J n slots words r left
    → number_of block_number r ≡ block_refusal J n (length slots) (length words)
unfolding gathering
gather_number J n slots words r left p =
    ap (λ (z : Given). number_of block_number z.0) p.outcome ∙ block_numbered (λ (z : Given). z.0) _ _ _ (block_most J n (length slots) (length words)) refl refl

-- a block that is not refused
pub record BlockFine (J n source target : ℕ) : Type 0 where
  pub setting : BlockSetting J n
  pub from : source ≡ J * n
  pub to : target ≡ J * n

pub block_fine : (J n source target : ℕ) → block_refusal J n source target ≡ 0 → BlockFine J n source target
unfolding block_refusal
block_fine J n source target e =
    let (s, e₁) = need_zero (block_setting? J n) 1 _ (omega arith) e in
    let (f, e₂) = need_zero (ℕ_discrete source (J * n)) 2 _ (omega arith) e₁ in
    let (t, _) = need_zero (ℕ_discrete target (J * n)) 2 _ (omega arith) e₂ in
    record { setting = s; from = f; to = t }

pub block_done : (J n source target : ℕ) → BlockFine J n source target → block_refusal J n source target ≡ 0
unfolding block_refusal
block_done J n source target f = sym (need_yes _ _ _ 0 f.setting (need_yes _ _ _ 0 f.from (need_yes _ _ _ 0 f.to refl)))

-- a number written with a digit below J
pub low : (i w : ℕ) {J : ℕ} → w < J → (i * J + w) % J ≡ w
low i w {J} h = mul-add-mod_self_right i J w ∙ mod-eq_of_lt h

pub high : (i w : ℕ) {J : ℕ} → w < J → (i * J + w) / J ≡ i
high i w h = mul-add-div_right (omega arith) i w ∙ rw (div-eq_of_lt h, add-zero)

pub in_block : (i w J n : ℕ) → i < n → w < J → i * J + w < n * J
in_block i w J n h k = omega (arith, mul-le-mul_right J h, suc-mul i J)

length_transposed : (m n : ℕ) (x : List ℕ) → length (transposed m n x) ≡ n * m
unfolding transposed
length_transposed m n x = length_tabulate (n * m) _

transposed_at : (m n i w : ℕ) (x : List ℕ) → i < n → w < m → get_or (transposed m n x) (i * m + w) 0 ≡ get_or x (w * n + i) 0
unfolding transposed
transposed_at m n i w x h k = get_or_tabulate (n * m) _ (i * m + w) 0 (in_block i w m n h k) ∙ rw (low i w k, high i w k)

some_column : (m n a : ℕ) → a < m * n → 0 < n
some_column m zero a u = absurd (not-suc-le-zero (rw mul-zero at u))
some_column m (suc n) a u = omega arith

transposed_back : (m n : ℕ) (x : List ℕ) → length x ≡ m * n → transposed n m (transposed m n x) ≡ x
transposed_back m n x e = ext_get_or 0 _ x (length_transposed n m (transposed m n x) ∙ sym e) λ a u. at a (rw length_transposed at u)
  where
    at : (a : ℕ) → a < m * n → get_or (transposed n m (transposed m n x)) a 0 ≡ get_or x a 0
    at a u =
        let b : 0 < n = some_column m n a u in
        let e : a / n * n + a % n ≡ a = div-add-mod' a n in
        let i : a / n < m = (div-lt_iff_lt-mul b).1 u in
        sym (ap (λ (z : ℕ). get_or (transposed n m (transposed m n x)) z 0) e)
        ∙ transposed_at n m (a / n) (a % n) (transposed m n x) i (mod-lt a b)
        ∙ transposed_at m n (a % n) (a / n) x (mod-lt a b) i
        ∙ ap (λ (z : ℕ). get_or x z 0) e

-- The slot rule: byte i of word w goes to slot i * J + w.
pub slot_rule : (J n i w : ℕ) (words : List ℕ) → i < n → w < J → get_or (spread J n words) (i * J + w) 0 ≡ get_or words (w * n + i) 0
slot_rule = transposed_at

-- what the receiver finds at place i of word w, whatever the slots hold
pub place_rule : (J n i w : ℕ) (slots : List ℕ) → i < n → w < J → get_or (gather J n slots) (w * n + i) 0 ≡ get_or slots (i * J + w) 0
place_rule J n i w slots h k = transposed_at n J w i slots k h

-- Each undoes the other.
pub gather_spread : (J n : ℕ) (words : List ℕ) → length words ≡ J * n → gather J n (spread J n words) ≡ words
gather_spread = transposed_back

pub spread_gather : (J n : ℕ) (slots : List ℕ) → length slots ≡ n * J → spread J n (gather J n slots) ≡ slots
spread_gather J n = transposed_back n J
