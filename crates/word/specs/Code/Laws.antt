-- What `encoded` and `corrected` are: all that anything above knows of them.
-- Assumes nothing.
use Rattle.std.specs.Prelude.{◌≡◌, List, [], ◌∷◌, ◌++◌, ℕ, zero, suc, ◌+◌, ◌-◌, ◌^◌, ◌≤◌, ◌<◌, length, take, drop, replicate, T, ltb}
use Rattle.std.proofs.Common.{sym, ◌∙◌, subst, arith, get_or-append-add}
use Rattle.std.proofs.Math.Path.{ap}
use Rattle.std.proofs.Math.Option.{Option, some, none, get_or}
use Rattle.std.proofs.Math.Decide.{dec_lt}
use Rattle.std.proofs.Math.ListN.{length-append, get_or-append}
use Rattle.std.proofs.lemmas.List.{length-replicate, get_or-replicate}
use Rattle.std.proofs.Math.Seq.{take-append_seam}
use Rattle.algebra.specs.Tests.{at, total, below, and_right}
use Rattle.word.specs.Setting.{allowed, Allowed, limits}
use Rattle.word.specs.Word.{errors, error_at, error_of_same, error_of_marked, marked}
use Rattle.word.specs.Codeword.{is_codeword, qualifies, Codeword, codeword, InReach, in_reach, is_in_reach}
use Rattle.word.specs.Search.{search}
use Rattle.word.specs.Search.Laws.{Passes, Sound, search_sound, search_only, search_none}
use Rattle.word.specs.Distance.{near_one, total_zero, errors_self}
use Rattle.word.specs.Completion.{message_completes}
use Rattle.word.specs.Code.{encoded, corrected}
use Rattle.word.specs.declared.Setting.{Setting}

-- ---- decoding

module _ (s : Setting) (ok : T (allowed s)) (marks received : List ℕ) (size : length received ≡ s.n) where
  -- at most one codeword has 2e + f ≤ r
  pub qualifies_once : (c d : List ℕ) → T (qualifies s marks received c) → T (qualifies s marks received d) → c ≡ d
  qualifies_once c d p q = near_one s (limits s ok) marks received size c d (in_reach s marks received c p) (in_reach s marks received d q)

  pub corrected_only : (c : List ℕ) → T (qualifies s marks received c) → corrected s marks received ≡ some c
  unfolding corrected
  corrected_only c p =
      let w : Codeword s c = (in_reach s marks received c p).code in
      search_only (2 ^ s.m) s.n (qualifies s marks received) c (record { size = w.size; small = w.small; good = p })
      λ u q. qualifies_once u c q.good p

module _ (s : Setting) (marks received : List ℕ) where
  pub corrected_none : ((c : List ℕ) → T (qualifies s marks received c) → ⊥) → corrected s marks received ≡ none
  unfolding corrected
  corrected_none h = search_none (2 ^ s.m) s.n (qualifies s marks received) λ u p. h u p.good

  -- and the other way
  pub corrected_some : (c : List ℕ) → corrected s marks received ≡ some c → T (qualifies s marks received c)
  unfolding corrected
  corrected_some c e = (subst (Sound (Passes (2 ^ s.m) s.n (qualifies s marks received)) _) e (search_sound (2 ^ s.m) s.n (qualifies s marks received))).good

-- a codeword with at most r marks is its own correction
pub corrected_self : (s : Setting) → T (allowed s) → (marks w : List ℕ) → T (is_codeword s w) → marked marks w ≤ s.r → corrected s marks w ≡ some w
corrected_self s ok marks w c l =
    corrected_only s ok marks w (codeword s w c).size w
    (is_in_reach s marks w w (record { code = codeword s w c; bound = omega (arith, errors_self marks w) }))

-- ---- encoding: a codeword is the only one that begins as it does, since with the check symbols marked 2e + f is r

total_tail : (k n : ℕ) (f : ℕ → ℕ) → ((i : ℕ) → i < n → i < k → f i ≡ 0) → ((i : ℕ) → f i ≤ 1) → total n f ≤ n - k
unfolding total
total_tail k zero f g h = omega arith
total_tail k (suc n) f g h = elim (dec_lt n k) [
  | yes l ↦ omega (arith, total_tail k n f (λ i a. g i (omega arith)) h, g n (omega arith) l)
  | no l ↦ omega (arith, total_tail k n f (λ i a. g i (omega arith)) h, h n)
]

-- the first k places unmarked, and r others marked
checks_marked : ℕ → ℕ → List ℕ
checks_marked k r = replicate k 0 ++ replicate r 1

marks_low : (k r i : ℕ) → i < k → at (checks_marked k r) i ≡ 0
unfolding checks_marked
marks_low k r i l = get_or-append (replicate k 0) (replicate r 1) 0 i (rw (length-replicate {A = ℕ} k 0) l) ∙ get_or-replicate k i 0 0 l

marks_high : (k r i : ℕ) → i < r → at (checks_marked k r) (k + i) ≡ 1
unfolding checks_marked
marks_high k r i l =
    ap (λ (z : ℕ). at (replicate k 0 ++ replicate r 1) (z + i)) (sym (length-replicate {A = ℕ} k 0)) ∙ get_or-append-add (replicate k 0) (replicate r 1) i 0 ∙ get_or-replicate r i 1 0 l

small_replicate : (r i : ℕ) → at (replicate r 1) i ≤ 1
small_replicate zero i = omega arith
small_replicate (suc r) zero = omega arith
small_replicate (suc r) (suc i) = small_replicate r i

small_marks : (k r i : ℕ) → at (checks_marked k r) i ≤ 1
unfolding checks_marked
small_marks zero r i = small_replicate r i
small_marks (suc k) r zero = omega arith
small_marks (suc k) r (suc i) = small_marks k r i

begins_near : (s : Setting) (message w u : List ℕ) → s.r < s.n → length message ≡ s.n - s.r → Codeword s (message ++ w) → Codeword s (message ++ u)
    → InReach s (checks_marked (s.n - s.r) s.r) (message ++ w) (message ++ u)
unfolding errors marked
begins_near s message w u room size a b =
    let k : ℕ = s.n - s.r in
    let marks : List ℕ = checks_marked k s.r in
    let e : length (message ++ w) ≡ s.n = a.size in
    record {
      code = b;
      bound = omega (
        arith,
        total_zero (length (message ++ w)) (error_at marks (message ++ w) (message ++ u)) (λ i l. elim (dec_lt i k) [
          | yes h ↦ error_of_same (at marks i) _ _ (get_or-append message w 0 i (rw size h) ∙ sym (get_or-append message u 0 i (rw size h)))
          | no h ↦
              let j : i ≡ k + (i - k) = omega arith in
              let one : at marks i ≡ 1 = ap (at marks) j ∙ marks_high k s.r (i - k) (omega arith) in
              error_of_marked (at marks i) _ _ λ q. omega arith
        ]),
        total_tail k (length (message ++ w)) (λ i. at marks i) (λ i l h. marks_low k s.r i h) (small_marks k s.r),
      );
    }

below_after : (q : ℕ) (v w : List ℕ) → T (below q (v ++ w)) → T (below q w)
unfolding below
below_after q [] w t = t
below_after q (x ∷ v) w t = below_after q v w (and_right (ltb x q) (below q (v ++ w)) t)

append_cancel : (v x y : List ℕ) → v ++ x ≡ v ++ y → x ≡ y
append_cancel [] x y e = e
append_cancel (a ∷ v) x y e = append_cancel v x y (ap (drop 1) e)

module _ (s : Setting) (ok : T (allowed s)) (message : List ℕ) (size : length message ≡ s.n - s.r) where
  -- two codewords that begin with the message are one, ..
  pub checks_once : (u checks : List ℕ) → T (is_codeword s (message ++ u)) → T (is_codeword s (message ++ checks)) → u ≡ checks
  checks_once u checks p t =
      let w : Codeword s (message ++ checks) = codeword s (message ++ checks) t in
      let a : Allowed s = limits s ok in
      append_cancel message u checks
      (near_one s a (checks_marked (s.n - s.r) s.r) (message ++ checks) w.size (message ++ u) (message ++ checks)
      (begins_near s message checks u a.room size w (codeword s (message ++ u) p)) (begins_near s message checks checks a.room size w w))

  -- .. so its check symbols are what a search for them finds
  checks_found : (checks : List ℕ) → T (is_codeword s (message ++ checks)) → search (2 ^ s.m) s.r (λ u. is_codeword s (message ++ u)) ≡ some checks
  checks_found checks t =
      let w : Codeword s (message ++ checks) = codeword s (message ++ checks) t in
      search_only (2 ^ s.m) s.r (λ u. is_codeword s (message ++ u)) checks
      (record { size = omega (arith, w.size, (limits s ok).room, length-append message checks); small = below_after (2 ^ s.m) message checks w.small; good = t })
      λ u p. checks_once u checks p.good t

  -- the one codeword that begins with the message
  pub encoded_only : (checks : List ℕ) → T (is_codeword s (message ++ checks)) → encoded s message ≡ message ++ checks
  unfolding encoded
  encoded_only checks t = ap (λ (o : Option (List ℕ)). message ++ get_or o []) (checks_found checks t)

  -- and there is one
  pub encoded_codeword : T (below (2 ^ s.m) message) → T (is_codeword s (encoded s message))
  unfolding encoded
  encoded_codeword small =
      let (checks, c) = message_completes s (limits s ok) message size small in
      subst (λ (o : Option (List ℕ)). T (is_codeword s (message ++ get_or o []))) (sym (checks_found checks c)) c

-- it begins with the message
pub encoded_begins : (s : Setting) (message : List ℕ) → take (length message) (encoded s message) ≡ message
unfolding encoded
encoded_begins s message = take-append_seam message _
