-- Demand 3: what is sent over a block frame or a delay line and damaged within the bound comes back as sent. Each sentence of the demand is a
-- statement here; proofs/Proved.antt proves them. They speak of the promises of the calls below, and of no code.
-- Assumes nothing.
use Rattle.std.specs.Prelude.{◌≡◌, Some, List, [], ℕ, ◌+◌, ◌-◌, ◌*◌, ◌≤◌, ◌<◌, length, get_or, T}
use Rattle.word.specs.Map.{changes}
use Rattle.frame.specs.Frame.{allowed_frame}
use Rattle.frame.specs.declared.setting.Framing.{Framing}
use Rattle.record.specs.Record.{noted}
use Rattle.record.specs.declared.Record.{Record}
use Rattle.link.specs.Masts.{mast_of}
use Rattle.link.specs.Replay.{replay_number, frames_heard}
use Rattle.link.specs.declared.choice.Mast.TheVariants.{First, Second}
use Rattle.coverage.specs.Each.{Each}
use Rattle.coverage.specs.Channel.{Covered, OneRun, SomeRuns, MarkedRuns}
use Rattle.coverage.specs.Frame.{Message, Frame, in_frame, Arrives, StreamArrives, frames_of, Answer, Answers, ComesBack}
use Rattle.coverage.specs.Masts.{Copies, CopyArrives, Refused, MastsArrive, MastsAnswer, MastsAnswers, MastsHeard, MastsBack}
use Rattle.coverage.specs.Replay.{frame_at, Called, after, ComesBackAt}
use Rattle.coverage.specs.Line.{LineSetting, LineAllowed, delay, on_line, LineArrives, LineReceived, leaving, WordComesBack}

-- ---- Any messages that fit, sent over the block frame or the delay line and damaged or marked within that bound in every word, come back as sent.

abbrev pub FrameComesBack : Type 0
FrameComesBack = (f : Framing) → T (allowed_frame f) → (m : Message) (frame : Frame) (a : Answer) → Arrives f m frame → Answers f frame a → ComesBack m a

abbrev pub FramesComeBack : Type 0
FramesComeBack =
    (f : Framing) → T (allowed_frame f) → (ms : List Message) (frames : List Frame) (answers : List Answer)
    → Each (Arrives f) ms frames → Each (Answers f) frames answers → Each ComesBack ms answers

abbrev pub LineComesBack : Type 0
LineComesBack =
    (l : LineSetting) → LineAllowed l → (messages : List (List ℕ)) (slots marks bytes flags : List ℕ) → LineArrives l messages slots marks → LineReceived l slots marks bytes flags
    → (w : ℕ) → w < length messages → WordComesBack l (get_or messages w []) (leaving l bytes w) (leaving l flags w)

-- ---- One unmarked run of up to depth · t slots, alone, is within it wherever it falls: in a frame, ..

abbrev pub FrameRunWithin : Type 0
FrameRunWithin = (f : Framing) → Covered (in_frame f) (OneRun f.depth)

-- .. among frames that come one after the other, so also across the border of two: each of them comes back; ..
abbrev pub FramesRunComeBack : Type 0
FramesRunComeBack =
    (f : Framing) → T (allowed_frame f) → (ms : List Message) (slots marks : List ℕ) (answers : List Answer)
    → StreamArrives f ms slots marks → Each (Answers f) (frames_of f (length ms) slots marks) answers → Each ComesBack ms answers

-- .. and on a line.
abbrev pub LineRunWithin : Type 0
LineRunWithin = (l : LineSetting) → LineAllowed l → (many : ℕ) → Covered (on_line l many) (OneRun l.branches)

-- Several runs on a line are covered if at least n + (I - 1)·M·I clean slots lie between them.
abbrev pub LineRunsWithin : Type 0
LineRunsWithin = (l : LineSetting) → LineAllowed l → (many : ℕ) → Covered (on_line l many) (SomeRuns l.branches (l.n + delay l))

-- ---- So two different lists of equally many messages, sent under one setting and damaged within it, never arrive with the same slots and marks.

abbrev pub NoTwoFramesAlike : Type 0
NoTwoFramesAlike =
    (f : Framing) → T (allowed_frame f) → (ms ns : List Message) (frames : List Frame) → Each (Arrives f) ms frames → Each (Arrives f) ns frames → ms ≡ ns

abbrev pub NoTwoLinesAlike : Type 0
NoTwoLinesAlike =
    (l : LineSetting) → LineAllowed l → (ms ns : List (List ℕ)) (slots marks : List ℕ) → length ms ≡ length ns
    → LineArrives l ms slots marks → LineArrives l ns slots marks → ms ≡ ns

-- ---- the demand

pub record Demand3 : Type 0 where
  pub frame : FrameComesBack
  pub frames : FramesComeBack
  pub line : LineComesBack
  pub frame_run : FrameRunWithin
  pub frames_run : FramesRunComeBack
  pub line_run : LineRunWithin
  pub line_runs : LineRunsWithin
  pub frames_differ : NoTwoFramesAlike
  pub lines_differ : NoTwoLinesAlike

-- ---- Two masts (document 02, No. 1). The demand holds if either copy meets its proviso and the other is refused or returns the same frame: ..

abbrev pub TwoMastsComeBack : Type 0
TwoMastsComeBack =
    (f : Framing) → T (allowed_frame f) → (ms : List Message) (copies : List Copies) (answers : List MastsAnswer)
    → Each (MastsArrive f) ms copies → Each (MastsAnswers f) copies answers → Each MastsBack ms answers

-- .. the record notes that frame, once; ..
abbrev pub TwoMastsNoted : Type 0
TwoMastsNoted =
    (f : Framing) → T (allowed_frame f) → (m : Message) (copies : Copies) (a : MastsAnswer) (before next : Record)
    → MastsArrive f m copies → MastsHeard before f copies a next → MastsBack m a × (next ≡ noted before 0 m.sequence)

-- .. and no two lists of messages arrive with the same slots and marks at both masts.
abbrev pub NoTwoMastsAlike : Type 0
NoTwoMastsAlike =
    (f : Framing) → T (allowed_frame f) → (ms ns : List Message) (copies : List Copies) → Each (MastsArrive f) ms copies → Each (MastsArrive f) ns copies → ms ≡ ns

-- A copy within its proviso is never lost because the other is refused, by whatever number: it is the one that is used.
abbrev pub RefusedTakesNothing : Type 0
RefusedTakesNothing =
    (f : Framing) → T (allowed_frame f) → (m : Message) (copies : Copies) (a : MastsAnswer) → MastsAnswers f copies a
    → (CopyArrives f m copies.first → Refused f copies.second → MastsBack m a × (mast_of a.chosen ≡ Some First))
    × (CopyArrives f m copies.second → Refused f copies.first → MastsBack m a × (mast_of a.chosen ≡ Some Second))

pub record TwoMasts : Type 0 where
  pub back : TwoMastsComeBack
  pub noted_once : TwoMastsNoted
  pub differ : NoTwoMastsAlike
  pub refused : RefusedTakesNothing

-- ---- A morning's frames at once (document 02, No. 2). The demand is read frame by frame: each that meets its proviso comes back, in its own area and
-- place, whatever became of the others, and is noted in its turn.

abbrev pub ReplayComesBack : Type 0
ReplayComesBack =
    (f : Framing) → T (allowed_frame f) → (many : ℕ) → many ≤ 64 → (slots marks : List ℕ) (c : Called f many slots marks)
    → (replay_number c.answer ≡ 0) × (frames_heard c.answer ≡ many) × (c.next ≡ after c many)
    × ((i : ℕ) → i < many → (m : Message) → Arrives f m (frame_at f i slots marks) → ComesBackAt m c i)

-- ---- Beyond the demand: runs that the receiver has marked may be as long as depth · r, since a marked symbol costs half of an unmarked one.

abbrev pub FrameMarkedRunsWithin : Type 0
FrameMarkedRunsWithin = (f : Framing) → Covered (in_frame f) (MarkedRuns f.depth ((f.n - 1) * f.depth))

abbrev pub LineMarkedRunsWithin : Type 0
LineMarkedRunsWithin = (l : LineSetting) → LineAllowed l → (many : ℕ) → Covered (on_line l many) (MarkedRuns l.branches (l.n + delay l))

pub record Beyond : Type 0 where
  pub frame : FrameMarkedRunsWithin
  pub line : LineMarkedRunsWithin

-- ---- And the map of a frame within the bound tells exactly the slots that are not as they were sent (document 02, No. 6).

abbrev pub FrameMapTells : Type 0
FrameMapTells =
    (f : Framing) → T (allowed_frame f) → (m : Message) (frame : Frame) (a : Answer) (arrived : Arrives f m frame) → Answers f frame a → a.map ≡ changes frame.slots arrived.sent
