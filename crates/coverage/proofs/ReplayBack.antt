-- Each frame of a replay that is damaged within the bound comes back, whatever became of the others: the promise says of each that it is heard as by
-- its own call.
-- Assumes nothing.
use Rattle.std.specs.Prelude.{◌≡◌, refl, Result, Ok, Err, ℕ, ◌≤◌, ◌<◌, T}
use Rattle.std.proofs.Common.{sym, ◌∙◌, arith}
use Rattle.std.proofs.Math.Path.{ap, ap₂}
use mathlib.Core.List.{List}
use Rattle.algebra.specs.Tests.{at, passed}
use Rattle.algebra.specs.Lists.{part}
use Rattle.frame.specs.Frame.{area_size, slot_count, allowed_frame, ReceiveOutcome, receive_outcome, receiving, number_of, received_of, payload_in, payload_of}
use Rattle.frame.specs.Frame.Limits.{FrameAllowed, frame_kept}
use Rattle.frame.specs.declared.setting.Framing.{Framing}
use Rattle.frame.specs.Receiving.{refusal_some}
use Rattle.frame.specs.declared.setting.ReceiveError.{ReceiveError}
use Rattle.frame.specs.declared.setting.Received.{Received}
use Rattle.record.specs.Record.{noted}
use Rattle.link.specs.Receiver.{HearOutcome, hearing}
use Rattle.link.specs.Replay.{frames_in, result_of}
use Rattle.link.specs.Replay.Checks.{ReplayChecked, frames_counted, lies}
use Rattle.link.specs.Replay.Turns.{part_size}
use Rattle.link.specs.Replay.Each.{FrameHeard, EachHeard}
use Rattle.link.proofs.Each.{each_heard}
use Rattle.coverage.specs.Frame.{Message, Arrives, Answer, ComesBack}
use Rattle.coverage.specs.Replay.{frame_at, Called, after, ComesBackAt}
use Rattle.coverage.specs.Coverage.{ReplayComesBack}
use Rattle.coverage.proofs.FrameBack.{frame_comes_back}

-- only an accepted frame's number is 0, and it hands back what its `back` says
handed : (r : Result Received ReceiveError) (area : List ℕ) → number_of r ≡ 0 → payload_of r area ≡ payload_in (received_of r).back area
unfolding payload_of
handed (Ok r) area e = refl
handed (Err x) area e = absurd (omega (arith, refusal_some x))

module _ (f : Framing) (ok : T (allowed_frame f)) (many : ℕ) (few : many ≤ 64) (slots marks : List ℕ) (c : Called f many slots marks) where
  limits : FrameAllowed f
  limits = frame_kept f (passed _ ok)

  counted : frames_in f slots ≡ many
  counted = frames_counted f limits slots many c.slots_size

  checked : ReplayChecked f slots marks c.lent c.lent_maps c.lent_results
  checked = record {
    limits = limits;
    few = rw counted few;
    slots_size = rw counted c.slots_size;
    marks_size = rw counted c.marks_size;
    areas_size = rw counted c.lent_size;
    maps_size = rw counted c.maps_size;
    results_size = rw counted c.results_size;
  }

  all : EachHeard c.promise
  all = each_heard c.promise checked

  module _ (i : ℕ) (l : i < many) (m : Message) (a : Arrives f m (frame_at f i slots marks)) where
    heard : FrameHeard c.promise i
    heard = all.each i (rw counted l)

    abbrev own : Answer
    own = record { received = heard.answer; area = part (area_size f) i c.areas; map = part (slot_count f) i c.maps }

    frame_told : receive_outcome heard.answer own.area own.map ≡ receiving f (part (slot_count f) i slots) (part (slot_count f) i marks) (part (area_size f) i c.lent) (part (slot_count f) i c.lent_maps)
    unfolding hearing
    frame_told = ap (λ (o : HearOutcome). o.frame) heard.hears.outcome

    back : ComesBack m own
    back =
        let place = lies checked i (rw counted l) in
        frame_comes_back f ok m (frame_at f i slots marks) own a (record {
          lent = part (area_size f) i c.lent;
          lent_size = part_size (area_size f) i c.lent place.in_areas;
          lent_map = part (slot_count f) i c.lent_maps;
          map_size = part_size (slot_count f) i c.lent_maps place.in_maps;
          promise = record { outcome = frame_told };
        })

    at_place : ComesBackAt m c i
    unfolding hearing result_of
    at_place = record {
      number = ap (λ (r : List ℕ). at r 0) heard.result ∙ back.number;
      sequence = ap (λ (r : List ℕ). at r 2) heard.result ∙ back.sequence;
      payload = ap (λ (r : List ℕ). payload_in (at r 3) own.area) heard.result ∙ sym (handed heard.answer own.area back.number) ∙ back.payload;
      turn = ap (λ (o : HearOutcome). o.next) heard.hears.outcome ∙ ap (λ (o : ReceiveOutcome). noted (after c i) o.number o.sequence) (sym frame_told) ∙ ap₂ (noted (after c i)) back.number back.sequence;
    }

pub replay_comes_back : ReplayComesBack
replay_comes_back f ok many few slots marks c =
    let told = all f ok many few slots marks c in
    (told.number, told.count ∙ counted f ok many few slots marks c, told.last ∙ ap (after c) (counted f ok many few slots marks c), at_place f ok many few slots marks c)
