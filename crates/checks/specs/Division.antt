-- The message divided in two words: what the loops of `remainder` keep, and their turns.
-- Assumes nothing.
use Rattle.std.specs.Prelude.{◌≡◌, refl, List, ℕ, ◌+◌, ◌-◌, ◌/◌, ◌%◌, ◌^◌, ◌<◌, ◌≤◌, length, replicate}
use Rattle.std.proofs.Common.{ap, ◌∙◌, arith, length-append, pow_pos}
use Rattle.std.specs.Int.Bits.{bit_xor}
use Rattle.std.proofs.lemmas.List.{length-replicate}
use Rattle.algebra.specs.Tests.{at}
use Rattle.algebra.specs.Lists.{tabulate}
use Rattle.algebra.specs.Register.{generator, generator_length, fed}
use Rattle.field.proofs.Elements.{K}
use Rattle.checks.specs.Roots.{root}
use Rattle.checks.specs.Checks.{divisor, Checks, Dividing, dividing_none, dividing_more, dividing_all}
use Rattle.algebra.specs.Bytes.{byte, whole, bytes}
use Rattle.checks.specs.Symbols.{One, Four}
use Rattle.checks.specs.Rows.{Rows, both, four, turn_one, turn_four}

-- the two words a and b are the register after i symbols of the message, for whatever code the tables are of
pub record Divided (low high message : List ℕ) (i a b : ℕ) : Type 0 where
  pub first : a < 2 ^ 64
  pub second : b < 2 ^ 64
  pub within : i ≤ length message
  pub rest : (m : ℕ) (g : List ℕ) → length g ≡ 16 → Rows 4 m g low high → Dividing m g message i (bytes a b)

pub no_bytes : replicate 16 0 ≡ bytes 0 0
unfolding bytes byte whole tabulate
no_bytes = refl

pub divided_none : (low high message : List ℕ) (a b : ℕ) → a ≡ 0 → b ≡ 0 → Divided low high message 0 a b
divided_none low high message a b ea eb = record {
  first = rw ea (pow_pos 64);
  second = rw eb (pow_pos 64);
  within = omega arith;
  rest = λ m g n rows. rw (ea, eb, ← no_bytes) (dividing_none m g message);
}

module _ (low high message : List ℕ) (i a b c d : ℕ) (h : Divided low high message i a b) (lc : c < 2 ^ 64) (ld : d < 2 ^ 64) where
  pub divided_one : (s : ℕ) → i < length message → One message i s
      → whole c d ≡ bit_xor (whole a b / 256) (both low high 0 (bit_xor s (a % 256))) → Divided low high message (i + 1) c d
  divided_one s l o e = record {
    first = lc;
    second = ld;
    within = omega arith;
    rest = λ m g n rows.
        dividing_more m g message i (bytes a b) (bytes c d) (h.rest m g n rows) l
        (turn_one m g low high n rows a b c d h.first h.second lc ld s o.byte e ∙ ap (λ (x : ℕ). fed (K m) g x (bytes a b)) o.value);
  }

  pub divided_four : (t : ℕ) → i + 4 ≤ length message → Four message i t
      → whole c d ≡ bit_xor (whole a b / 4294967296) (four low high (bit_xor t (a % 4294967296))) → Divided low high message (i + 4) c d
  divided_four t l o e = record {
    first = lc;
    second = ld;
    within = l;
    rest = λ m g n rows.
        let p = at message i in
        let q = at message (i + 1) in
        let r = at message (i + 2) in
        let s = at message (i + 3) in
        let f1 = fed (K m) g p (bytes a b) in
        let f2 = fed (K m) g q f1 in
        let f3 = fed (K m) g r f2 in
        let d1 = dividing_more m g message i (bytes a b) f1 (h.rest m g n rows) (omega arith) refl in
        let d2 = dividing_more m g message (i + 1) f1 f2 d1 (omega arith) refl in
        let d3 = dividing_more m g message (i + 1 + 1) f2 f3 d2 (omega arith) (ap (λ (x : ℕ). fed (K m) g (at message x) f2) (let k : i + 2 ≡ i + 1 + 1 = omega arith in k)) in
        let k4 : i + 1 + 1 + 1 + 1 ≡ i + 4 = omega arith in
        rw k4 at (dividing_more m g message (i + 1 + 1 + 1) f3 (bytes c d) d3 (omega arith)
        (turn_four m g low high n rows a b c d h.first h.second lc ld p q r s (o.bytes _) (o.bytes _) (o.bytes _) (o.bytes _) t (bit_xor t (a % 4294967296)) o.value refl e
        ∙ ap (λ (x : ℕ). fed (K m) g (at message x) f3) (let k : i + 3 ≡ i + 1 + 1 + 1 = omega arith in k)));
  }

pub divisor_length : (m b r : ℕ) → r ≤ 16 → length (divisor m b r) ≡ 16
unfolding divisor
divisor_length m b r l = length-append (generator (K m) (root m b) r) (replicate (16 - r) 0) ∙ omega (arith, generator_length (K m) (root m b) r, length-replicate {A = ℕ} (16 - r) 0)

-- they are the check symbols, where the tables are those of the code's generator
pub divided_all : (m b r : ℕ) (low high message : List ℕ) (i x y : ℕ) → r ≤ 16 → Rows 4 m (divisor m b r) low high → length message ≤ i
    → Divided low high message i x y → Checks m b r message (bytes x y)
divided_all m b r low high message i x y l rows h d =
    dividing_all m b r (divisor m b r) message i (bytes x y) l refl h (d.rest m (divisor m b r) (divisor_length m b r l) rows)
