-- The turns of a replay: what is known once i frames are heard, and that the call's answers meet its promise.
-- Assumes nothing.
use Rattle.std.specs.Prelude.{◌≡◌, Result, Ok, Err, take, drop}
use Rattle.std.proofs.Math.Path.{refl, sym, ap}
use Rattle.std.proofs.Common.{◌∙◌, mul-le-mul_right, add-one, arith, length-take, length-drop, drop_at}
use mathlib.Core.List.{List, []}
use Prim.Native.Nat.{ℕ, ◌+◌, ◌-◌, ◌*◌, ◌≤◌, ◌<◌}
use Rattle.std.proofs.Math.ListN.{length}
use Rattle.algebra.specs.Lists.{joined, length_joined, part, put_part, Written, written_none, written_same, written_more, written_all}
use Rattle.algebra.specs.Refusal.{new, kept}
use Rattle.frame.specs.Frame.{slot_count, area_size, receive_outcome}
use Rattle.frame.specs.declared.setting.Framing.{Framing}
use Rattle.frame.specs.declared.setting.ReceiveError.{ReceiveError}
use Rattle.frame.specs.declared.setting.Received.{Received}
use Rattle.record.specs.declared.Record.{Record}
use Rattle.link.specs.Receiver.{HearOutcome, hear_outcome, hearing}
use Rattle.link.specs.Replay.{frames_in, record_after, heard, result_of, replay_number, replay_outcome, heard_in_turn, replay_refusal, replaying}
use Rattle.link.specs.Replay.Checks.{ReplayChecked, replay_passes, lies}
use Rattle.link.specs.Replay.Places.{result_size}
use Rattle.link.specs.Promises.{Hears, Replays}
use Rattle.link.specs.declared.replaying.ReplayError.{ReplayError}
use Rattle.link.specs.declared.replaying.ReplayError.TheVariants.{BadSetting, BadLength}

-- part i as the code lends it
abbrev pub cut : ℕ → ℕ → List ℕ → List ℕ
cut k i l = take (i * k + k - i * k) (drop (i * k) l)

cut_is : (k i : ℕ) (l : List ℕ) → cut k i l ≡ part k i l
cut_is k i l = let e : i * k + k - i * k ≡ k = omega arith in rw e

pub part_size : (k i : ℕ) (l : List ℕ) → i * k + k ≤ length l → length (part k i l) ≡ k
part_size k i l h = simp (length-take, length-drop) (omega arith)

-- the part that comes next is as it was lent
standing : (k : ℕ) (g : ℕ → List ℕ) (lent : List ℕ) (i : ℕ) (area : List ℕ) → Written k g lent i area → part k i area ≡ part k i lent
standing k g lent i area h =
    ap (take k) (ap (drop (i * k)) h.stands ∙ drop_at (joined i g) (drop (i * k) lent) (i * k) (length_joined k g i h.sizes))

module _ (before : Record) (f : Framing) (slots marks areas₀ maps₀ results₀ : List ℕ) where
  abbrev told : ℕ → HearOutcome
  told = heard before f slots marks areas₀ maps₀

  -- i frames are heard: their areas, maps and results are written, and the rest stands
  pub record Replaying (i : ℕ) (areas maps results : List ℕ) (next : Record) : Type 0 where
    pub turn : i ≤ frames_in f slots
    pub areas_done : Written (area_size f) (λ j. (told j).frame.area) areas₀ i areas
    pub maps_done : Written (slot_count f) (λ j. (told j).frame.map) maps₀ i maps
    pub results_done : Written 52 (λ j. result_of (told j).frame) results₀ i results
    pub noted : next ≡ record_after before f slots marks areas₀ maps₀ i

  pub replaying_none : Replaying 0 areas₀ maps₀ results₀ before
  unfolding record_after
  replaying_none = record { turn = omega arith; areas_done = written_none _ _ _; maps_done = written_none _ _ _; results_done = written_none _ _ _; noted = refl }

  module _ (i : ℕ) (areas maps results : List ℕ) (next : Record) (h : Replaying i areas maps results next) (c : ReplayChecked f slots marks areas₀ maps₀ results₀) where
    -- what is lent keeps its length
    pub areas_same : length areas ≡ length areas₀
    areas_same =
        let m : i * area_size f ≤ frames_in f slots * area_size f = mul-le-mul_right (area_size f) h.turn in
        written_same _ _ _ i areas h.areas_done (omega (arith, c.areas_size))

    pub maps_same : length maps ≡ length maps₀
    maps_same =
        let m : i * slot_count f ≤ frames_in f slots * slot_count f = mul-le-mul_right (slot_count f) h.turn in
        written_same _ _ _ i maps h.maps_done (omega (arith, c.maps_size))

    pub results_same : length results ≡ length results₀
    results_same = written_same _ _ _ i results h.results_done (omega (arith, c.results_size, h.turn))

    -- frame i comes next, with parts that are still as they were lent, and with the record that those before it left
    pub replaying_more : i < frames_in f slots → (answer : Result Received ReceiveError) (next' : Record) (area map place : List ℕ)
        → length area ≡ length (cut (area_size f) i areas) → length map ≡ length (cut (slot_count f) i maps)
        → Hears next f (cut (slot_count f) i slots) (cut (slot_count f) i marks) (cut (area_size f) i areas) (cut (slot_count f) i maps) answer next' area map
        → place ≡ result_of (receive_outcome answer [] [])
        → Replaying (i + 1) (put_part (area_size f) i area areas) (put_part (slot_count f) i map maps) (put_part 52 i place results) next'
    unfolding record_after result_of
    replaying_more l answer next' area map place area_size_lem map_size e put =
        let S : ℕ = slot_count f in
        let A : ℕ = area_size f in
        let in_place = lies c i l in
        let own : hear_outcome answer next' area map ≡ told i =
        e.outcome ∙ λ t. hearing (h.noted t) f (cut_is S i slots t) (cut_is S i marks t) ((cut_is A i areas ∙ standing _ _ _ i areas h.areas_done) t) ((cut_is S i maps ∙ standing _ _ _ i maps h.maps_done) t) in
        record {
          turn = omega arith;
          areas_done = written_more _ _ _ i areas h.areas_done area (ap (λ (o : HearOutcome). o.frame.area) own) (area_size_lem ∙ ap length (cut_is A i areas) ∙ part_size A i areas (omega (arith, areas_same)));
          maps_done = written_more _ _ _ i maps h.maps_done map (ap (λ (o : HearOutcome). o.frame.map) own) (map_size ∙ ap length (cut_is S i maps) ∙ part_size S i maps (omega (arith, maps_same)));
          results_done = written_more _ _ _ i results h.results_done place (put ∙ ap (λ (o : HearOutcome). result_of o.frame) own) (ap length put ∙ result_size (receive_outcome answer [] []));
          noted = ap (λ (o : HearOutcome). o.next) own ∙ rw add-one;
        }

    -- all are heard
    pub replaying_all : frames_in f slots ≤ i → Replays before f slots marks areas₀ maps₀ results₀ (Ok (frames_in f slots)) next areas maps results
    unfolding replaying
    replaying_all past =
        let e : i ≡ frames_in f slots = omega (arith, h.turn) in
        let areas_all : areas ≡ joined i (λ j. (told j).frame.area) = written_all _ _ _ i areas h.areas_done (rw e c.areas_size) in
        let maps_all : maps ≡ joined i (λ j. (told j).frame.map) = written_all _ _ _ i maps h.maps_done (rw e c.maps_size) in
        let results_all : results ≡ joined i (λ j. result_of (told j).frame) = written_all _ _ _ i results h.results_done (rw e c.results_size) in
        let all : replay_outcome (Ok (frames_in f slots)) next areas maps results ≡ heard_in_turn before f slots marks areas₀ maps₀ i =
        λ t. record { number = 0; frames = sym e t; areas = areas_all t; maps = maps_all t; results = results_all t; next = h.noted t } in
        record { outcome = all ∙ ap (heard_in_turn before f slots marks areas₀ maps₀) e ∙ new _ _ _ (sym (replay_passes f slots marks areas₀ maps₀ results₀ c)) }

-- the whole call is refused
refusal_some : (e : ReplayError) → 0 < replay_number {A = ℕ} (Err e)
refusal_some BadSetting = omega arith
refusal_some BadLength = omega arith

pub replay_refused : (before : Record) (f : Framing) (slots marks areas maps results : List ℕ) (e : ReplayError) → replay_number {A = ℕ} (Err e) ≡ replay_refusal f slots marks areas maps results
    → Replays before f slots marks areas maps results (Err e) before areas maps results
unfolding replaying
replay_refused before f slots marks areas maps results e h =
    record { outcome = rw h (kept (replay_refusal f slots marks areas maps results) _ _ (omega (arith, refusal_some e))) }
