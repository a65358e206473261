-- Any list of frames comes back, each damaged within the bound, or all of them end to end struck by one run; and no two lists arrive alike
-- (document 01, Block interleaver and frame).
-- Assumes nothing.
use Rattle.std.specs.Prelude.{◌≡◌, List, [], ℕ, ◌+◌, ◌*◌, ◌<◌, length, get_or, T}
use Rattle.std.proofs.Common.{sym, ap, ◌∙◌, arith}
use Rattle.algebra.specs.Tests.{at}
use Rattle.algebra.specs.Lists.{tabulate, tabulated, part, part_entries, within, length_joined, joined_at}
use Rattle.frame.specs.Frame.{slot_count, allowed_frame}
use Rattle.frame.specs.declared.setting.Framing.{Framing}
use Rattle.coverage.specs.Channel.{Channel, end_to_end}
use Rattle.coverage.specs.Frame.{Message, FrameSent, Frame, Arrives, StreamArrives, frames_of, Answers, ComesBack}
use Rattle.coverage.specs.Coverage.{FramesComeBack, FramesRunComeBack, NoTwoFramesAlike}
use Rattle.coverage.specs.Each.{Each, each_length, each_entry, each_tabulate, each_chain, each_once}
use Rattle.coverage.proofs.RunsCovered.{frames_run_within}
use Rattle.coverage.proofs.Words.{picked}
use Rattle.coverage.proofs.FrameBack.{slots_size, some_answer, frame_comes_back}

pub frames_come_back : FramesComeBack
frames_come_back f ok = each_chain (Arrives f) (Answers f) ComesBack (frame_comes_back f ok)

-- ---- frames one after the other, in whose slots one run falls: each arrives within the bound

module _ (f : Framing) (ok : T (allowed_frame f)) (ms : List Message) (slots marks : List ℕ) (a : StreamArrives f ms slots marks) where
  abbrev none : Message
  none = record { payload = []; sequence = 0 }

  frame_sent : (i : ℕ) → i < length ms → FrameSent f (get_or ms i none) (get_or a.sent i [])
  frame_sent = each_entry (FrameSent f) ms a.sent none [] a.sending

  many : length a.sent ≡ length ms
  many = sym (each_length (FrameSent f) ms a.sent a.sending)

  frame_size : (i : ℕ) → i < length a.sent → length (get_or a.sent i []) ≡ slot_count f
  frame_size i h = let s = frame_sent i (rw many at h) in slots_size f ok (get_or ms i none) s.fits (get_or a.sent i []) s

  -- each frame is a part of the slots, as it was sent and as it arrives
  module _ (i : ℕ) (h : i < length ms) where
    frame_part : (x : List ℕ) → length x ≡ length ms * slot_count f → tabulate (slot_count f) (λ s. at x (i * slot_count f + s)) ≡ part (slot_count f) i x
    frame_part x e = part_entries (slot_count f) i x (omega (arith, within i (length ms) (slot_count f) h))

    part_sent : part (slot_count f) i (end_to_end a.sent) ≡ get_or a.sent i []
    part_sent =
        let k : i < length a.sent = rw many h in
        sym (frame_part _ (length_joined (slot_count f) _ _ frame_size ∙ ap (λ (z : ℕ). z * slot_count f) many))
        ∙ sym (tabulated (get_or a.sent i []) (slot_count f) _ 0 (frame_size i k) λ s l. sym (joined_at (slot_count f) _ _ frame_size i s k l))

    part_channel : Channel (slot_count f) (part (slot_count f) i slots) (part (slot_count f) i marks)
    part_channel = rw (frame_part slots a.channel.slots_size, frame_part marks a.channel.marks_size) at (picked (slot_count f) (λ s. i * slot_count f + s) slots marks a.channel)

  frames_arrive : Each (Arrives f) ms (frames_of f (length ms) slots marks)
  frames_arrive = each_tabulate (Arrives f) ms none _ λ i h. record {
    sent = get_or a.sent i [];
    sending = frame_sent i h;
    channel = part_channel i h;
    within = rw (part_sent i h) at (frames_run_within f (length ms) i h (end_to_end a.sent) slots marks a.run);
  }

pub frames_run_come_back : FramesRunComeBack
frames_run_come_back f ok ms slots marks answers a = frames_come_back f ok ms _ answers (frames_arrive f ok ms slots marks a)

-- ---- no two alike: one answer to the frame would have to give both messages

frame_once : (f : Framing) → T (allowed_frame f) → (m n : Message) (frame : Frame) → Arrives f m frame → Arrives f n frame → m ≡ n
frame_once f ok m n frame a b =
    let (r, p) = some_answer f ok m a.sending.fits frame a in
    let x : ComesBack m r = frame_comes_back f ok m frame r a p in
    let y : ComesBack n r = frame_comes_back f ok n frame r b p in
    λ i. record { payload = (sym x.payload ∙ y.payload) i; sequence = (sym x.sequence ∙ y.sequence) i }

pub no_two_frames_alike : NoTwoFramesAlike
no_two_frames_alike f ok ms ns frames = each_once (Arrives f) (frame_once f ok) frames ms ns
