-- A replay that meets its promise has heard each frame as `hear` hears it (specs/Replay/Each.antt).
-- Assumes nothing.
use Rattle.std.specs.Prelude.{◌≡◌, Result, List, [], ℕ, ◌+◌, ◌*◌, ◌<◌, length}
use Rattle.std.proofs.Math.Path.{sym, ap}
use Rattle.std.proofs.Common.{◌∙◌, arith}
use Rattle.std.proofs.Math.Numerals.{add-one}
use Rattle.algebra.specs.Tests.{at}
use Rattle.algebra.specs.Lists.{tabulated, joined, length_joined, joined_at, part, part_entries, within}
use Rattle.algebra.specs.Refusal.{new}
use Rattle.frame.specs.Frame.{slot_count, area_size, ReceiveOutcome, receive_outcome}
use Rattle.frame.specs.declared.setting.Framing.{Framing}
use Rattle.record.specs.declared.Record.{Record}
use Rattle.link.specs.Receiver.{hearing}
use Rattle.link.specs.Replay.{frames_in, record_after, heard, result_of, ReplayOutcome, replay_outcome, heard_in_turn, replaying}
use Rattle.link.specs.Replay.Checks.{ReplayChecked, replay_passes, lies}
use Rattle.link.specs.Replay.Places.{result_size}
use Rattle.link.specs.Replay.Turns.{part_size}
use Rattle.link.specs.Replay.Whole.{Whole, receiving_whole}
use Rattle.link.specs.Promises.{Replays}
use Rattle.link.specs.declared.replaying.ReplayError.{ReplayError}
use Rattle.link.specs.Replay.Each.{EachHeard}

-- part i of lists of one length, joined, is list i
joined_part : (k : ℕ) (g : ℕ → List ℕ) (n : ℕ) → ((i : ℕ) → i < n → length (g i) ≡ k) → (i : ℕ) → i < n → part k i (joined n g) ≡ g i
joined_part k g n sizes i l =
    sym (part_entries k i (joined n g) (omega (arith, within i n k l, length_joined k g n sizes)))
    ∙ sym (tabulated (g i) k (λ j. at (joined n g) (i * k + j)) 0 (sizes i l) λ j u. sym (joined_at k g n sizes i j l u))

module _ {before : Record} {f : Framing} {slots marks areas maps results : List ℕ} {replayed : Result ℕ ReplayError} {next : Record} {left left_maps left_results : List ℕ}
    (p : Replays before f slots marks areas maps results replayed next left left_maps left_results) where
  abbrev after : ℕ → Record
  after = record_after before f slots marks areas maps

  module _ (c : ReplayChecked f slots marks areas maps results) where
    told : replay_outcome replayed next left left_maps left_results ≡ heard_in_turn before f slots marks areas maps (frames_in f slots)
    unfolding replaying
    told = p.outcome ∙ sym (new _ _ _ (sym (replay_passes f slots marks areas maps results c)))

    abbrev outcome : ℕ → ReceiveOutcome
    outcome i = (heard before f slots marks areas maps i).frame

    own : (i : ℕ) → i < frames_in f slots → Whole (area_size f) (slot_count f) (outcome i)
    unfolding hearing
    own i l =
        let place = lies c i l in
        rw (part_size (area_size f) i areas place.in_areas, part_size (slot_count f) i maps place.in_maps) at
        (receiving_whole f (part (slot_count f) i slots) (part (slot_count f) i marks) (part (area_size f) i areas) (part (slot_count f) i maps))

    each_area : (i : ℕ) (l : i < frames_in f slots) → part (area_size f) i left ≡ (own i l).area
    each_area i l =
        ap (λ (o : ReplayOutcome). part (area_size f) i o.areas) told
        ∙ joined_part (area_size f) (λ j. (outcome j).area) (frames_in f slots) (λ j u. sym (ap (λ (o : ReceiveOutcome). length o.area) (own j u).told) ∙ (own j u).area_fits) i l
        ∙ sym (ap (λ (o : ReceiveOutcome). o.area) (own i l).told)

    each_map : (i : ℕ) (l : i < frames_in f slots) → part (slot_count f) i left_maps ≡ (own i l).map
    each_map i l =
        ap (λ (o : ReplayOutcome). part (slot_count f) i o.maps) told
        ∙ joined_part (slot_count f) (λ j. (outcome j).map) (frames_in f slots) (λ j u. sym (ap (λ (o : ReceiveOutcome). length o.map) (own j u).told) ∙ (own j u).map_fits) i l
        ∙ sym (ap (λ (o : ReceiveOutcome). o.map) (own i l).told)

    each_result : (i : ℕ) (l : i < frames_in f slots) → part 52 i left_results ≡ result_of (receive_outcome (own i l).answer [] [])
    unfolding result_of
    each_result i l =
        ap (λ (o : ReplayOutcome). part 52 i o.results) told ∙ joined_part 52 (λ j. result_of (outcome j)) (frames_in f slots) (λ j u. result_size (outcome j)) i l
        ∙ sym (ap (λ (o : ReceiveOutcome). result_of o) (own i l).told)

    pub each_heard : EachHeard p
    unfolding record_after
    each_heard = record {
      number = ap (λ (o : ReplayOutcome). o.number) told;
      count = ap (λ (o : ReplayOutcome). o.frames) told;
      last = ap (λ (o : ReplayOutcome). o.next) told;
      each = λ i l.
          let frame : receive_outcome (own i l).answer (part (area_size f) i left) (part (slot_count f) i left_maps) ≡ outcome i =
          (λ t. receive_outcome (own i l).answer (each_area i l t) (each_map i l t)) ∙ (own i l).told in
          let more : after (i + 1) ≡ (heard before f slots marks areas maps i).next = rw add-one in
          record { answer = (own i l).answer; hears = record { outcome = λ t. record { frame = frame t; next = more t } }; result = each_result i l };
    }
