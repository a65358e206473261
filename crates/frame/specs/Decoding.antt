-- The words of a received frame: one that is decoded, and the loop that decodes them into their parts of the area.
-- Assumes nothing.
use Rattle.std.specs.Prelude.{◌≡◌, true, false, Result, Ok, Err, Option, Some, None, List, ℕ, zero, suc, ◌+◌, ◌*◌, ◌≤◌, ◌<◌, set, take, T, if◌then◌else◌}
use Rattle.std.specs.Result.{result_ok}
use Rattle.std.proofs.Math.Path.{refl, sym, ap}
use Rattle.std.proofs.Common.{◌∙◌, not-suc-le-zero, mul-le-mul_right, arith, lt-ltb, le-ltb, below_more, length-set, ext_get_or, length-take-le, get_or-take, get_or-set_same, get_or-set_other}
use Rattle.std.proofs.Math.Option as Math
use Rattle.std.proofs.Math.Option.{some, none}
use Rattle.std.proofs.Math.Decide.{dec_lt}
use Rattle.std.proofs.Math.ListN.{length, get_or, replicate, length-replicate}
use Rattle.std.proofs.Math.Dec.{ltb}
use Rattle.algebra.specs.Tests.{at, below, below_at, below_all, first_none, first_is}
use Rattle.algebra.specs.Lists.{tabulated, within, put_part, put_part_size, Written, written_none, written_same, written_more, written_all}
use Rattle.word.specs.Setting.{message_size, allowed_yes}
use Rattle.word.specs.Map.{changes, unchanged}
use Rattle.word.specs.Map.Laws.{length_changes, changes_no_bits}
use Rattle.word.specs.Answers.{no_figures, figures}
use Rattle.word.specs.Promises.{DecodesPart, decodes_part_once}
use Rattle.word.specs.Refusals.{Checked}
use Rattle.word.specs.Met.{part_found, part_lost}
use Rattle.word.specs.declared.Figures.{Figures}
use Rattle.word.specs.declared.DecodeError.{DecodeError}
use Rattle.interleave.specs.Slots.{TakesWord, PutsWord, word_in, length_word, word_below}
use Rattle.frame.specs.Frame.{word_setting, area_size, slot_count, is_none, received_word, received_marks, corrected_word, message_of, figures_at, changes_at, beyond, area_received, figures_received, map_received}
use Rattle.frame.specs.Frame.Limits.{FrameAllowed}
use Rattle.frame.specs.Mapping.{Blank, Spare, Mapping, zeros_at, put_none, mapping_none, mapping_more, mapping_all}
use Rattle.frame.specs.declared.setting.Framing.{Framing}

-- ---- one word

-- where no mark is set, every word's marks are zeros
module _ (J n w : ℕ) (marks : List ℕ) (none : T (below 1 marks)) where
  small : T (below 256 marks)
  small = below_all 256 marks λ i l. omega (arith, below_at 1 marks none i (omega arith))

  pub no_marks_taken : n ≤ 255 → TakesWord J n w marks (replicate 255 0)
  no_marks_taken h =
      let size : length {A = ℕ} (take n (replicate 255 0)) ≡ n = length-take-le n (replicate 255 0) (omega (arith, length-replicate {A = ℕ} 255 0)) in
      let own : take n (replicate 255 0) ≡ word_in J n marks w =
      ext_get_or 0 (take n (replicate 255 0)) (word_in J n marks w) (size ∙ sym (length_word J n marks w)) (λ i l.
      get_or-take n (replicate 255 0) i 0 (omega (arith, size)) ∙ zeros_at 255 i ∙ sym (let z : at (word_in J n marks w) i < 1 = below_at 1 (word_in J n marks w) (word_below J n marks w 1 (omega arith) none) i (omega arith) in omega arith)) in
      record { size = length-replicate {A = ℕ} 255 0; word = own; bytes = rw own (word_below J n marks w 256 (omega arith) small) }

-- what has been checked of a received frame
pub record FrameTaken (f : Framing) (slots marks : List ℕ) : Type 0 where
  pub limits : FrameAllowed f
  pub slots_size : length slots ≡ slot_count f
  pub marks_size : length marks ≡ slot_count f
  pub marks_small : T (below 2 marks)

pub frame_taken : (f : Framing) (slots marks : List ℕ)
    → FrameAllowed f → length slots ≡ slot_count f → length marks ≡ slot_count f → below 2 marks ≡ true → FrameTaken f slots marks
frame_taken f slots marks a n m b = record { limits = a; slots_size = n; marks_size = m; marks_small = rw b tt }

-- what has been checked before word w is decoded
pub record WordGiven (f : Framing) (w : ℕ) (part map : List ℕ) : Type 0 where
  pub turn : w < f.depth
  pub part_size : length part ≡ message_size (word_setting f)
  pub map_size : length map ≡ slot_count f
  pub blank : Blank f.depth w map

-- word w is decoded, and accepted with these figures; where no bit was changed its map is all 0
pub record Accepted (f : Framing) (w : ℕ) (slots marks : List ℕ) (own : Figures) (part changed : List ℕ) : Type 0 where
  pub reached : is_none (corrected_word f slots marks w) ≡ false
  pub figures_lem : own ≡ figures_at f slots marks w
  pub message : part ≡ message_of f slots marks w
  pub places : changed ≡ changes_at f slots marks w
  pub spare : Spare own.bits f.n changed

-- its message is in its part, and where it was changed in its slots of the map
pub record WordFound (f : Framing) (w : ℕ) (slots marks map : List ℕ) (own : Figures) (part left_map : List ℕ) : Type 0 where
  pub reached : is_none (corrected_word f slots marks w) ≡ false
  pub figures_lem : own ≡ figures_at f slots marks w
  pub message : part ≡ message_of f slots marks w
  pub size : length (changes_at f slots marks w) ≡ f.n
  pub put : PutsWord f.depth w (changes_at f slots marks w) map left_map

pub word_put : (f : Framing) (w : ℕ) (slots marks : List ℕ) (own : Figures) (part changed map left_map : List ℕ)
    → Accepted f w slots marks own part changed → PutsWord f.depth w changed map left_map → WordFound f w slots marks map own part left_map
word_put f w slots marks own part changed map left_map a p =
    record { reached = a.reached; figures_lem = a.figures_lem; message = a.message; size = rw a.places at a.spare.size; put = rw a.places at p }

-- where no bit was changed, the map's slots are right as they are
pub word_kept : (f : Framing) (w : ℕ) (slots marks : List ℕ) (own : Figures) (part changed map : List ℕ)
    → w < f.depth → Blank f.depth w map → own.bits ≡ 0 → Accepted f w slots marks own part changed → WordFound f w slots marks map own part map
word_kept f w slots marks own part changed map l blank e a =
    word_put f w slots marks own part changed map map a (put_none f.depth f.n w changed map l blank (a.spare.none e))

-- or it is beyond reach
abbrev pub WordTold : Framing → ℕ → (slots marks map : List ℕ) → Option Figures → (part left_map : List ℕ) → Type 0
WordTold f w slots marks map (Some own) part left_map = WordFound f w slots marks map own part left_map
WordTold f w slots marks map None part left_map = is_none (corrected_word f slots marks w) ≡ true

module _ (f : Framing) (w : ℕ) (slots marks : List ℕ) (g : FrameTaken f slots marks) where
  abbrev word : List ℕ
  word = received_word f slots marks w

  abbrev marked : List ℕ
  marked = received_marks f slots marks w

  checks : T (below 256 word) → Checked (word_setting f) marked word
  checks small = record {
    setting = rw (← allowed_yes (word_setting f) g.limits.words) tt;
    size = length_word f.depth f.n slots w;
    marks_size = length_word f.depth f.n marks w;
    small = small;
    marks_small = word_below f.depth f.n marks w 2 (omega arith) g.marks_small;
  }

  -- the word and its marks, taken from their slots, have passed the word's checks
  pub word_checked : (r s : List ℕ) → TakesWord f.depth f.n w slots r → TakesWord f.depth f.n w marks s → Checked (word_setting f) (take f.n s) (take f.n r)
  word_checked r s p q = rw (p.word, q.word) (checks (rw p.word at p.bytes))

  module _ (part room : List ℕ) (part_size : length part ≡ message_size (word_setting f)) (room_size : length room ≡ f.n) (r s : List ℕ)
      (p : TakesWord f.depth f.n w slots r) (q : TakesWord f.depth f.n w marks s) where
    -- what is known of a word by what it was found to have
    abbrev says : Option Figures → (left changed : List ℕ) → Type 0
    says (Some own) left changed = Accepted f w slots marks own left changed
    says None left changed = is_none (corrected_word f slots marks w) ≡ true

    decides : T (below 256 word) → (d : Result Figures DecodeError) (left changed : List ℕ) → DecodesPart (word_setting f) word marked part room d left changed
        → (o : Math.Option (List ℕ)) → corrected_word f slots marks w ≡ o → says (result_ok d) left changed
    unfolding corrected_word message_of figures_at changes_at
    decides small d left changed t (some c) e =
        let own : Figures = figures marked word c in
        let (x, y, z) = decodes_part_once t (part_found (word_setting f) word marked part room part_size room_size (checks small) c own (changes word c) e refl refl) in
        rw (x, y, z) (record {
          reached = rw e refl;
          figures_lem = rw e refl;
          message = rw e refl;
          places = rw e refl;
          spare = record { size = length_changes word c ∙ length_word f.depth f.n slots w; none = λ b. changes_no_bits word c b ∙ ap (λ (k : ℕ). replicate k 0) (length_word f.depth f.n slots w) };
        })
    decides small d left changed t none e =
        let (x, y, z) = decodes_part_once t (part_lost (word_setting f) word marked part room part_size room_size (checks small) (unchanged word) e refl) in
        rw x (rw e refl)

    pub word_told : (d : Result Figures DecodeError) (left changed : List ℕ)
        → DecodesPart (word_setting f) (take f.n r) (take f.n s) part room d left changed → says (result_ok d) left changed
    word_told d left changed t = decides (rw p.word at p.bytes) d left changed (rw (p.word, q.word) at t) (corrected_word f slots marks w) refl

-- ---- the loop

-- w words are accepted: their messages, maps and figures are written, and the rest stands
pub record Collecting (f : Framing) (slots marks before : List ℕ) (w : ℕ) (area map : List ℕ) (figures : List Figures) : Type 0 where
  pub turn : w ≤ f.depth
  pub room : length before ≡ area_size f
  pub messages : Written (message_size (word_setting f)) (message_of f slots marks) before w area
  pub mapped : Mapping f.depth f.n (changes_at f slots marks) w map
  pub reached : (i : ℕ) → i < w → is_none (corrected_word f slots marks i) ≡ false
  pub found : (i : ℕ) → i < w → get_or figures i no_figures ≡ figures_at f slots marks i
  pub rest : (i : ℕ) → w ≤ i → get_or figures i no_figures ≡ no_figures
  pub count : length figures ≡ 16

-- all words are accepted
pub record AllFound (f : Framing) (slots marks : List ℕ) (figures : List Figures) (area map : List ℕ) : Type 0 where
  pub none : beyond f slots marks ≡ f.depth
  pub figures_lem : figures ≡ figures_received f slots marks
  pub area_lem : area ≡ area_received f slots marks
  pub map_lem : map ≡ map_received f slots marks

-- or word w is the first that is beyond reach
pub record FirstLost (f : Framing) (slots marks : List ℕ) (w : ℕ) : Type 0 where
  pub turn : w < f.depth
  pub first : w ≡ beyond f slots marks

abbrev pub Collected : Framing → (slots marks : List ℕ) → Result (List Figures) ℕ → (area map : List ℕ) → Type 0
Collected f slots marks (Ok figures) area map = AllFound f slots marks figures area map
Collected f slots marks (Err w) area map = FirstLost f slots marks w

module _ (f : Framing) (slots marks before : List ℕ) where
  abbrev k : ℕ
  k = message_size (word_setting f)

  pub collecting_none : length before ≡ area_size f → (map : List ℕ) → map ≡ replicate (slot_count f) 0 → Collecting f slots marks before 0 before map (replicate 16 no_figures)
  collecting_none size map clear = record {
    turn = omega arith;
    room = size;
    messages = written_none _ _ _;
    mapped = mapping_none _ _ _ map clear;
    reached = λ i h. absurd (not-suc-le-zero h);
    found = λ i h. absurd (not-suc-le-zero h);
    rest = λ i h. none_at i 16;
    count = refl;
  }
    where
      none_at : (i n : ℕ) → get_or (replicate n no_figures) i no_figures ≡ no_figures
      none_at i zero = refl
      none_at zero (suc n) = refl
      none_at (suc i) (suc n) = none_at i n

  module _ (w : ℕ) (area map : List ℕ) (figures : List Figures) (h : Collecting f slots marks before w area map figures) where
    -- the area keeps its length, and the next part lies in it
    pub same : length area ≡ length before
    same =
        let m : w * k ≤ f.depth * k = mul-le-mul_right k h.turn in
        written_same k (message_of f slots marks) before w area h.messages (omega (arith, h.room))

    pub fits : w < f.depth → w * k + k ≤ length area
    fits l = omega (arith, within w f.depth k l, h.room, same)

    -- also once a part has come back
    pub put_size : w < f.depth → (part : List ℕ) → length part ≡ k → length (put_part k w part area) ≡ length before
    put_size l part size = put_part_size k w part area (fits l) size ∙ same

    -- the next word is accepted
    pub collecting_more : f.depth ≤ 16 → w < f.depth → (own : Figures) (part left_map : List ℕ) → length part ≡ k → WordFound f w slots marks map own part left_map
        → Collecting f slots marks before (w + 1) (put_part k w part area) left_map (set figures w own)
    collecting_more few l own part left_map size d = record {
      turn = omega arith;
      room = h.room;
      messages = written_more k (message_of f slots marks) before w area h.messages part d.message size;
      mapped = mapping_more _ _ _ w map h.mapped (changes_at f slots marks w) left_map l refl d.size d.put;
      reached = below_more (λ (i : ℕ). is_none (corrected_word f slots marks i) ≡ false) w h.reached d.reached;
      found = below_more (λ (i : ℕ). get_or (set figures w own) i no_figures ≡ figures_at f slots marks i) w
          (λ i a. get_or-set_other figures w i own no_figures (λ q. omega arith) ∙ h.found i a)
          (get_or-set_same figures w own no_figures (omega (arith, h.count, few)) ∙ d.figures_lem);
      rest = λ i a. get_or-set_other figures w i own no_figures (λ q. omega arith) ∙ h.rest i (omega arith);
      count = length-set figures w own ∙ h.count;
    }

    -- the next word is beyond reach
    pub first_lost : w < f.depth → is_none (corrected_word f slots marks w) ≡ true → FirstLost f slots marks w
    unfolding beyond
    first_lost l lost = record { turn = l; first = sym (first_is f.depth (λ i. is_none (corrected_word f slots marks i)) w l h.reached lost) }

    -- all are accepted
    pub all_found : f.depth ≤ w → 1 ≤ f.depth → f.depth ≤ 16 → AllFound f slots marks figures area map
    unfolding beyond figures_received area_received map_received
    all_found l one few =
        let e : w ≡ f.depth = omega (arith, h.turn) in
        record {
          none = first_none f.depth (λ i. is_none (corrected_word f slots marks i)) λ i a. h.reached i (omega arith);
          figures_lem = tabulated figures 16 (λ i. if ltb i f.depth then figures_at f slots marks i else no_figures) no_figures h.count each_figure;
          area_lem = rw e at (written_all k (message_of f slots marks) before w area h.messages (rw e h.room));
          map_lem = mapping_all _ _ _ w map h.mapped l one;
        }
      where
        each_figure : (i : ℕ) → i < 16 → get_or figures i no_figures ≡ (if ltb i f.depth then figures_at f slots marks i else no_figures)
        each_figure i a = elim (dec_lt i f.depth) [
          | yes b ↦ rw (lt-ltb i f.depth b) (h.found i (omega arith))
          | no b ↦ rw (le-ltb i f.depth (omega arith)) (h.rest i (omega (arith, h.turn)))
        ]
