-- `reading::report` meets its contract: the page is the lent text, written from the front.
use Rattle.reader.specs.Promises.{put_reports}
use Rattle.reader.proofs.reading.report.Goals as goal

pub returns : goal.returns
returns c = put_reports c.put_spoken.ensures.written
