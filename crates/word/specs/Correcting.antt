-- How a word is corrected: what the steps have made, what they promise together, and the laws for each way out.
-- Assumes nothing.
use Rattle.std.specs.Prelude.{◌≡◌, refl, true, false, List, ◌++◌, ℕ, suc, ◌+◌, ◌-◌, ◌*◌, ◌/◌, ◌≤◌, ◌<◌, T, length, take, Option, Some, None, Result, Ok, Err}
use Rattle.std.proofs.Common.{sym, ap, ◌∙◌, subst, arith, take-take}
use Rattle.std.proofs.Math.Option.{some, none}
use Rattle.std.proofs.Math.Seq.{take-length, take-append_seam}
use Rattle.algebra.specs.Tests.{at}
use Rattle.algebra.specs.Peel.{Rep}
use Rattle.algebra.specs.Horner.{coef}
use Rattle.field.proofs.Elements.{K}
use Rattle.checks.specs.Roots.{spots}
use Rattle.checks.specs.Left.{left_sums}
use Rattle.word.specs.Word.{errors, marked, bits}
use Rattle.word.specs.Map.{changes}
use Rattle.word.specs.Map.Laws.{changes_front}
use Rattle.word.specs.Codeword.{qualifies, Codeword, in_reach, is_in_reach}
use Rattle.word.specs.Code.{corrected}
use Rattle.word.specs.Code.Laws.{corrected_only, corrected_none}
use Rattle.word.specs.Answers.{figures}
use Rattle.word.specs.Refusals.{Checked}
use Rattle.word.specs.Setting.{limits}
use Rattle.word.specs.Looking.{Measured}
use Rattle.checks.specs.Syndromes.{Syndromes, all_zero, all_zero_at, all_zero_yes}
use Rattle.decoder.specs.Peeling.{PeeledAll}
use Rattle.decoder.specs.Elimination.{KernelVector}
use Rattle.decoder.specs.Candidates.{Candidates}
use Rattle.decoder.specs.Corrections.{Corrected}
use Rattle.word.specs.Solution.{solved, left_zero, made_codeword}
use Rattle.word.specs.declared.Setting.{Setting}
use Rattle.word.specs.declared.Figures.{Figures}
use Rattle.word.specs.declared.DecodeError.{DecodeError}
use Rattle.word.specs.declared.DecodeError.TheVariants.{BeyondReach}

-- what the steps have made on the way to the word after them
pub record Steps (s : Setting) (marks : List ℕ) (f : ℕ) (sums before after rest : List ℕ) : Type 0 where
  pub peeled : List ℕ
  pub vector : List ℕ
  pub flags : List ℕ
  pub is_peeled : PeeledAll s.m s.n marks s.n sums peeled
  pub is_kernel : KernelVector s.m ((s.r - f) / 2) peeled vector
  pub are_candidates : Candidates s.m s.n marks vector (suc ((s.r - f) / 2)) flags
  pub are_corrected : Corrected s.m s.n s.b flags sums before after rest

-- what is known of a received word once its marks are counted and its power sums taken
pub record Summed (s : Setting) (marks received : List ℕ) (f : ℕ) (sums : List ℕ) : Type 0 where
  pub checked : Checked s marks received
  pub counted : f ≡ marked marks received
  pub few : f ≤ s.r
  pub measured : Rep (K s.m) (spots s.m s.n s.b) s.r (λ j. at sums j) (coef (K s.m) received)

-- a codeword was found, it is in out, and the figures are its own; or there is none
pub record Corrects (s : Setting) (marks received out : List ℕ) (r : Option Figures) : Type 0 where
  pub size : length out ≡ s.n
  pub found : (f : Figures) → r ≡ Some f → (corrected s marks received ≡ some out) × (f ≡ figures marks received out)
  pub lost : r ≡ None → corrected s marks received ≡ none

different : true ≡ false → ⊥
different e = let z : ◌≡◌ {A = ℕ} 0 1 = cc in omega arith

module _ (s : Setting) (marks received : List ℕ) (ch : Checked s marks received) where
  corrects_none : (out : List ℕ) → length out ≡ s.n → ((c : List ℕ) → T (qualifies s marks received c) → ⊥) → Corrects s marks received out None
  corrects_none out n h = record { size = n; found = λ f g. absurd cc; lost = λ g. corrected_none s marks received h }

  corrects_found : (out : List ℕ) (f : Figures) → length out ≡ s.n → f ≡ figures marks received out → T (qualifies s marks received out) → Corrects s marks received out (Some f)
  corrects_found out f n e q = record {
    size = n;
    found = λ g h. (corrected_only s ch.setting marks received ch.size out q, (let same : f ≡ g = cc in sym same ∙ e));
    lost = λ h. absurd cc;
  }

  module _ (f : ℕ) (ef : f ≡ marked marks received) (few : f ≤ s.r) (S : List ℕ)
      (sums : Rep (K s.m) (spots s.m s.n s.b) s.r (λ j. at S j) (coef (K s.m) received)) where
    module _ (out rest : List ℕ) (rep : Steps s marks f S received out rest) where
      abbrev t : ℕ
      t = (s.r - f) / 2

      lo : marked marks received + 2 * t ≤ s.r
      lo = omega arith

      hi : s.r ≤ suc (marked marks received + 2 * t)
      hi = omega arith

      -- whatever qualifies is the word that was made
      made : (c : List ℕ) → T (qualifies s marks received c) → out ≡ c
      made c q =
          solved s marks received ch t lo hi S rep.peeled rep.vector rep.flags out rest sums rep.is_peeled rep.is_kernel rep.are_candidates rep.are_corrected c (in_reach s marks received c q)

      -- what is left does not vanish
      pub lost_left : all_zero s.m s.r rest ≡ false → Corrects s marks received out None
      lost_left z = corrects_none out rep.are_corrected.size λ c q.
          different (sym (all_zero_yes s.m s.r rest
          (left_zero s marks received ch t lo hi S rep.peeled rep.vector rep.flags out rest sums rep.is_peeled rep.is_kernel rep.are_candidates rep.are_corrected
          (subst (Codeword s) (sym (made c q)) (in_reach s marks received c q).code))) ∙ z)

      -- too many wrong symbols
      pub lost_far : (e : ℕ) → e ≡ errors marks received out → s.r < 2 * e + f → Corrects s marks received out None
      lost_far e ee l = corrects_none out rep.are_corrected.size λ c q.
          let bound : 2 * errors marks received out + marked marks received ≤ s.r = rw (made c q) (in_reach s marks received c q).bound in
          omega arith

      pub found_corrected : (e : ℕ) → e ≡ errors marks received out → 2 * e + f ≤ s.r → all_zero s.m s.r rest ≡ true
          → (b : ℕ) → b ≡ bits received out → (g : Figures) → g ≡ record { errors = e; marked = f; bits = b } → Corrects s marks received out (Some g)
      found_corrected e ee l z b eb g eg =
          corrects_found out g rep.are_corrected.size (eg ∙ rw (ee, ef, eb))
          (is_in_reach s marks received out (record {
            code = made_codeword s marks received ch t lo hi S rep.peeled rep.vector rep.flags out rest sums rep.is_peeled rep.is_kernel rep.are_candidates rep.are_corrected (all_zero_at _ _ rest z);
            bound = omega arith;
          }))

-- ---- the word in a longer buffer

pub corrects_front : (s : Setting) (marks received out rest : List ℕ) (r : Option Figures) → Corrects s marks received out r → Corrects s marks received (take s.n (out ++ rest)) r
corrects_front s marks received out rest r h = subst (λ (w : List ℕ). Corrects s marks received w r) (sym (ap (λ (k : ℕ). take k (out ++ rest)) (sym h.size) ∙ take-append_seam out rest)) h

-- ---- a copy that fills its target

pub copied : (out received copy : List ℕ) (n : ℕ) → length out ≡ n → length received ≡ n → copy ≡ take (length out) received → copy ≡ received
copied out received copy n e f h = h ∙ ap (λ (k : ℕ). take k received) (e ∙ sym f) ∙ take-length received

-- the message is the front of the word
pub message_front : (n r : ℕ) (xs : List ℕ) → take (n - r) (take n xs) ≡ take (n - r) xs
message_front n r xs = take-take (n - r) n xs (omega arith)

-- a damaged word with its power sums
pub summed : (s : Setting) (marks received rest : List ℕ) (f : ℕ) (sums : List ℕ) → Measured s marks received f rest → Syndromes s.m s.b (take s.r rest) sums
    → Summed s marks received f sums
summed s marks received rest f sums h e = record {
  checked = h.checked;
  counted = h.counted;
  few = h.few;
  measured = left_sums s.m s.b s.r received (take s.r rest) h.left s.n sums (limits s h.checked.setting).high h.checked.size e;
}

-- ---- the answer of a damaged word

-- an accepted word's correction is at the front of the work space, and goes where `decode` or `decode_part` places it; its map is written, and
-- that of a refused word is left
pub record Answered (s : Setting) (received marks map work : List ℕ) (d : Result Figures DecodeError) (left_map : List ℕ) : Type 0 where
  pub size : length work ≡ 255
  pub refused : (e : DecodeError) → d ≡ Err e → (e ≡ BeyondReach) × (corrected s marks received ≡ none) × (left_map ≡ map)
  pub done : (f : Figures) → d ≡ Ok f → (f ≡ figures marks received (take s.n work)) × (corrected s marks received ≡ some (take s.n work)) × (left_map ≡ changes received (take s.n work))

module _ (s : Setting) (received marks map work : List ℕ) (n : length work ≡ 255) where
  pub answered_none : corrected s marks received ≡ none → Answered s received marks map work (Err BeyondReach) map
  answered_none g = record { size = n; refused = λ e h. ((let same : BeyondReach ≡ e = cc in sym same), g, refl); done = λ f e. absurd cc }

  pub answered_found : (f : Figures) (u : List ℕ) → corrected s marks received ≡ some (take s.n work) → f ≡ figures marks received (take s.n work) → length received ≡ s.n → u ≡ changes received work
      → Answered s received marks map work (Ok f) u
  answered_found f u g h e m =
      let front : changes received work ≡ changes received (take s.n work) = sym (changes_front received work) ∙ ap (λ (k : ℕ). changes received (take k work)) e in
      record { size = n; refused = λ e h. absurd cc; done = λ k e. ((let same : f ≡ k = cc in sym same ∙ h), g, m ∙ front) }
