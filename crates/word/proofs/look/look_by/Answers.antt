-- `look_by` meets its contract: the tables of a setting make the check symbols of its code, and the look by them promises the rest.
use Rattle.word.proofs.look.look_by.Goals as goal

pub look_with-requires-clause-given : goal.look_with-requires-clause-given
look_with-requires-clause-given c = λ checks (message, by, same). rw same at (by.each _ _ c.requires.1)
