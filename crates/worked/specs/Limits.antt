-- Document 01, "Worked table", Limits: of every call that takes such a setting, whatever else it is handed.
-- Assumes nothing.
use Rattle.std.specs.Prelude.{◌≡◌, refl, Result, Ok, Err, true, false, List, ◌≢◌, ℕ, zero, suc, ◌+◌, ◌*◌, ◌≤◌, T, length}
use Rattle.std.proofs.Common.{sym, ap, ◌∙◌, arith, lit≤, lit<}
use Rattle.std.proofs.Math.Option.{Option, some, none}
use Rattle.std.proofs.Math.Nat.{mul-mod_left}
use Rattle.field.specs.Answers.{is_field}
use Rattle.word.specs.Setting.{Allowed, allowed, allowed_yes, allowed_no}
use Rattle.word.specs.Code.{corrected}
use Rattle.word.specs.Answers.{EncodeOutcome, DecodeOutcome, encode_refusal, encoding, placed, answering, decode_refusal, decoding, part_refusal, decoding_part}
use Rattle.word.specs.Promises.{Encodes, Decodes, DecodesPart, encodes_once, decodes_once, decodes_part_once}
use Rattle.word.specs.Refusals.{encode_setting, decode_setting, part_setting}
use Rattle.word.specs.Met.{encode_refused, decode_refused, part_refused}
use Rattle.word.specs.declared.Setting.{Setting}
use Rattle.word.specs.declared.Figures.{Figures}
use Rattle.word.specs.declared.InputError.{InputError}
use Rattle.word.specs.declared.InputError.TheVariants as I
use Rattle.word.specs.declared.DecodeError.{DecodeError}
use Rattle.word.specs.declared.DecodeError.TheVariants.{BadSetting}
use Rattle.algebra.specs.Refusal.{need, if_zero, need_yes, need_no, need_either}
use Rattle.interleave.specs.Setting as line
use Rattle.interleave.specs.Setting.{memory_size, line_at, line_refusal, receiver_refusal, receive_refusal}
use Rattle.interleave.specs.Promises.{Ready, SentAnswer, ReceivedAnswer, fresh_sender, fresh_receiver, send_step, receive_step, send_run, receive_run, FreshSender, FreshReceiver, SendStep, SendRun, ReceiveStep, ReceiveRun}
use Rattle.interleave.specs.Calls.{sender_fresh, receiver_fresh}
use Rattle.interleave.specs.declared.line.LineError.TheVariants as L

-- no call of the word code answers BadSetting, the paper's 1
pub record Stands (s : Setting) : Type 0 where
  pub encode : (message held left : List ℕ) (d : Result Unit InputError) → Encodes s message held d left → d ≢ Err I.BadSetting
  pub decode : (received marks map left left_map : List ℕ) (d : Result Figures DecodeError) → Decodes s received marks map d left left_map → d ≢ Err BadSetting
  pub decode_part : (received marks part map left left_map : List ℕ) (d : Result Figures DecodeError) → DecodesPart s received marks part map d left left_map → d ≢ Err BadSetting

-- each answers BadSetting, the paper's 1, and leaves its buffer, and the map where it is lent one
pub record Refused (s : Setting) : Type 0 where
  pub encode : (message held left : List ℕ) (d : Result Unit InputError) → Encodes s message held d left → (d ≡ Err I.BadSetting) × (left ≡ held)
  pub decode : (received marks map left left_map : List ℕ) (d : Result Figures DecodeError) → Decodes s received marks map d left left_map
      → (d ≡ Err BadSetting) × (left ≡ received) × (left_map ≡ map)
  pub decode_part : (received marks part map left left_map : List ℕ) (d : Result Figures DecodeError) → DecodesPart s received marks part map d left left_map
      → (d ≡ Err BadSetting) × (left ≡ part) × (left_map ≡ map)

-- a delay line can be made fresh, in memories of its length
pub record LineStands (I M n : ℕ) : Type 0 where
  pub sender : (held left : List ℕ) (r : Ready) → length held ≡ memory_size I M → FreshSender I M n held r left → r ≡ Ok (line_at I M n 0)
  pub receiver : (held marks left left_marks : List ℕ) (r : Ready) → length held ≡ memory_size I M → length marks ≡ length held
      → FreshReceiver I M n held marks r left left_marks → r ≡ Ok (line_at I M n 0)

-- each call on it answers BadSetting, the paper's 1, and leaves what was lent, whatever its position
pub record LineRefused (I M n : ℕ) : Type 0 where
  pub fresh_sender_lem : (m left : List ℕ) (r : Ready) → FreshSender I M n m r left → (r ≡ Err L.BadSetting) × (left ≡ m)
  pub fresh_receiver_lem : (m ms left left_marks : List ℕ) (r : Ready) → FreshReceiver I M n m ms r left left_marks → (r ≡ Err L.BadSetting) × (left ≡ m) × (left_marks ≡ ms)
  pub send_step_lem : (p b : ℕ) (m left : List ℕ) (r : SentAnswer) → SendStep (line_at I M n p) m b r left → (r ≡ Err L.BadSetting) × (left ≡ m)
  pub receive_step_lem : (p b k : ℕ) (m ms left left_marks : List ℕ) (r : ReceivedAnswer) → ReceiveStep (line_at I M n p) m ms b k r left left_marks
      → (r ≡ Err L.BadSetting) × (left ≡ m) × (left_marks ≡ ms)
  pub send_run_lem : (p : ℕ) (m bs left out : List ℕ) (r : Ready) → SendRun (line_at I M n p) m bs r left out → (r ≡ Err L.BadSetting) × (left ≡ m) × (out ≡ bs)
  pub receive_run_lem : (p : ℕ) (m ms bs ks left left_marks out out_marks : List ℕ) (r : Ready)
      → ReceiveRun (line_at I M n p) m ms bs ks r left left_marks out out_marks
      → (r ≡ Err L.BadSetting) × (left ≡ m) × (left_marks ≡ ms) × (out ≡ bs) × (out_marks ≡ ks)

abbrev pub setting : (m n r b : ℕ) → Setting
setting m n r b = record { m = m; n = n; r = r; b = b }

-- the limits of r and b, and those of I, M and n that a line's room leaves
pub record Limits : Type 0 where
  -- n = 255 stands, 256 is refused 1
  pub n_255 : (r b : ℕ) → 2 ≤ r → r ≤ 16 → b ≤ 1 → Stands (setting 8 255 r b)
  pub n_256 : (r b : ℕ) → Refused (setting 8 256 r b)
  -- r = 1 or 17 is refused 1
  pub r_1 : (m n b : ℕ) → Refused (setting m n 1 b)
  pub r_17 : (m n b : ℕ) → Refused (setting m n 17 b)
  -- M-as-I = n stands, M-as-I = n − I does not
  pub line_stands : (I M n : ℕ) → (2 ≤ I) × (I ≤ 16) → (1 ≤ M) × (M ≤ 128) → (3 ≤ n) × (n ≤ 255) → M * I ≡ n → LineStands I M n
  pub line_refused : (I M n : ℕ) → M * I + I ≡ n → LineRefused I M n

-- ---- laws: the word code

-- a setting that is allowed is not refused 1
need_past : {P : Type 0} (w : Dec P) (rest : ℕ) → P → rest ≢ 1 → need w 1 rest ≢ 1
need_past w rest p r e = r (need_yes w 1 rest rest p refl ∙ e)

module _ (s : Setting) (ok : T (allowed s)) where
  abbrev other : ℕ → Type 0
  other k = k ≢ 1

  encode_past : (message word : List ℕ) → encode_refusal s message word ≢ 1
  unfolding encode_refusal
  encode_past message word =
      need_past _ _ ok (need_either _ 2 _ other (λ e. omega arith) (need_either _ 2 _ other (λ e. omega arith) (need_either _ 3 0 other (λ e. omega arith) λ e. omega arith)))

  decode_past : (received marks map : List ℕ) → decode_refusal s received marks map ≢ 1
  unfolding decode_refusal
  decode_past received marks map =
      need_past _ _ ok
      (need_either _ 2 _ other (λ e. omega arith)
      (need_either _ 2 _ other (λ e. omega arith) (need_either _ 2 _ other (λ e. omega arith)
      (need_either _ 3 _ other (λ e. omega arith) (need_either _ 3 0 other (λ e. omega arith) λ e. omega arith)))))

  part_past : (received marks part map : List ℕ) → part_refusal s received marks part map ≢ 1
  unfolding part_refusal
  part_past received marks part map = need_past _ _ ok (need_either _ 2 _ other (λ e. omega arith) (decode_past received marks map))

-- an outcome is 1 only where its checks are, or what they let through
past : {O : Type 0} (number : O → ℕ) (k : ℕ) (done refused : O) → k ≢ 1 → number done ≢ 1 → number refused ≡ k → number (if_zero k done refused) ≢ 1
past number zero done refused h d g e = d e
past number (suc k) done refused h d g e = h (sym g ∙ e)

not_one : ◌≢◌ {A = ℕ} 0 1
not_one e = omega arith

corrects : (place : List ℕ → List ℕ) (marks received lent : List ℕ) (o : Option (List ℕ)) → (placed place marks received lent o).number ≢ 1
corrects place marks received lent none e = omega arith
corrects place marks received lent (some c) e = omega arith

stands : (s : Setting) → true ≡ allowed s → Stands s
unfolding encoding answering decoding decoding_part
stands s a =
    let ok : T (allowed s) = rw (← a) tt in
    record {
      encode = λ message held left d p e. past (λ (o : EncodeOutcome). o.number) _ _ _ (encode_past s ok message held) not_one refl
          (rw e at (sym (ap (λ (o : EncodeOutcome). o.number) p.outcome)));
      decode = λ received marks map left left_map d p e. past (λ (o : DecodeOutcome). o.number) _ _ _ (decode_past s ok received marks map) (corrects _ _ _ _ (corrected s marks received)) refl
          (rw e at (sym (ap (λ (o : DecodeOutcome). o.number) p.outcome)));
      decode_part = λ received marks part map left left_map d p e. past (λ (o : DecodeOutcome). o.number) _ _ _ (part_past s ok received marks part map) (corrects _ _ _ _ (corrected s marks received)) refl
          (rw e at (sym (ap (λ (o : DecodeOutcome). o.number) p.outcome)));
    }

refused : (s : Setting) → (Allowed s → ⊥) → Refused s
refused s h =
    let a : allowed s ≡ false = sym (allowed_no s h) in
    record {
      encode = λ message held left d p. encodes_once p (encode_refused s message held 1 (Err I.BadSetting) (encode_setting s message held a) (lit≤ tt) refl);
      decode = λ received marks map left left_map d p. decodes_once p
          (decode_refused s received marks map 1 (Err BadSetting) (decode_setting s received marks map a) (lit≤ tt) (record { number = refl; none = refl }));
      decode_part = λ received marks part map left left_map d p. decodes_part_once p
          (part_refused s received marks part map 1 (Err BadSetting) (part_setting s received marks part map a) (lit≤ tt) (record { number = refl; none = refl }));
    }

-- ---- laws: the delay line

line_no : (I M n p size : ℕ) → M * I + I ≡ n → line_refusal (line_at I M n p) size ≡ 1
unfolding line_refusal
line_no I M n p size e = sym (need_no _ 1 _ λ a. omega (arith, a.setting.room, a.setting.branches.0))

refused_three : (r : Ready) (x u : List ℕ) (y v : List ℕ) → ◌≡◌ {A = Ready × List ℕ × List ℕ} (r, x, u) (Err L.BadSetting, y, v) → (r ≡ Err L.BadSetting) × (x ≡ y) × (u ≡ v)
refused_three r x u y v e =
    (ap (λ (z : Ready × List ℕ × List ℕ). z.0) e, ap (λ (z : Ready × List ℕ × List ℕ). z.1) e, ap (λ (z : Ready × List ℕ × List ℕ). z.2) e)

abbrev RunGiven : Type 0
RunGiven = Ready × List ℕ × List ℕ × List ℕ × List ℕ

pub limits : Limits
unfolding is_field receiver_refusal receive_refusal fresh_sender fresh_receiver send_step receive_step send_run receive_run
limits = record {
  n_255 = λ r b low high small. stands (setting 8 255 r b)
      (allowed_yes (setting 8 255 r b) (record { field = tt; low = low; high = high; room = omega arith; short = lit< tt; start = small }));
  n_256 = λ r b. refused (setting 8 256 r b) λ a. omega (arith, a.short);
  r_1 = λ m n b. refused (setting m n 1 b) λ a. omega (arith, a.low);
  r_17 = λ m n b. refused (setting m n 17 b) λ a. omega (arith, a.high);
  line_stands = λ I M n branches unit size e.
      let t : line.Setting I M n = record { branches = branches; unit = unit; size = size; whole = rw (← e) (mul-mod_left M I); room = omega arith } in
      record {
        sender = λ held left r k p. (sender_fresh I M n t held r left k p).0;
        receiver = λ held marks left left_marks r k g p. (receiver_fresh I M n t held marks r left left_marks k (g ∙ k) p).0;
      };
  line_refused = λ I M n e. record {
    fresh_sender_lem = λ m left r p.
        let q = rw (line_no I M n 0 (length m) e) at p.outcome in
        (ap (λ (z : Ready × List ℕ). z.0) q, ap (λ (z : Ready × List ℕ). z.1) q);
    fresh_receiver_lem = λ m ms left left_marks r p. refused_three r left left_marks m ms (rw (line_no I M n 0 (length m) e) at p.outcome);
    send_step_lem = λ p b m left r q.
        let g = rw (line_no I M n p (length m) e) at q.outcome in
        (ap (λ (z : SentAnswer × List ℕ). z.0) g, ap (λ (z : SentAnswer × List ℕ). z.1) g);
    receive_step_lem = λ p b k m ms left left_marks r q.
        let g = rw (line_no I M n p (length m) e) at q.outcome in
        (ap (λ (z : ReceivedAnswer × List ℕ × List ℕ). z.0) g, ap (λ (z : ReceivedAnswer × List ℕ × List ℕ). z.1) g, ap (λ (z : ReceivedAnswer × List ℕ × List ℕ). z.2) g);
    send_run_lem = λ p m bs left out r q. refused_three r left out m bs (rw (line_no I M n p (length m) e) at q.outcome);
    receive_run_lem = λ p m ms bs ks left left_marks out out_marks r q.
        let g = rw (line_no I M n p (length m) e) at q.outcome in
        (ap (λ (z : RunGiven). z.0) g, ap (λ (z : RunGiven). z.1) g, ap (λ (z : RunGiven). z.2) g, ap (λ (z : RunGiven). z.3) g, ap (λ (z : RunGiven). z.4) g);
  };
}

-- EN 300 421: 12 branches of unit 17 hold 1122 bytes
pub satellite_memory : memory_size 12 17 ≡ 1122
satellite_memory = refl
