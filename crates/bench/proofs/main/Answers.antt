-- `bench::main` meets its contract: the text is no longer than its buffer.
-- Assumes nothing.
use Rattle.std.proofs.Common.{sym, length-take-le}
use Rattle.reader.specs.Promises.{reports_within}
use Rattle.bench.proofs.main.Goals as goal

pub slice_bounds-text-end : goal.slice_bounds-text-end
slice_bounds-text-end c = reports_within c.report-count.ensures

pub slice_bounds-write_all-end : goal.slice_bounds-write_all-end
slice_bounds-write_all-end c = sym (length-take-le _ _ (reports_within c.report-count.ensures))
