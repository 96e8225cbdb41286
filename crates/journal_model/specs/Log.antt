-- What an entry of the journal does to the changes of the present timeline.
use Rattle.std.specs.Prelude.{List, [], ◌∷◌, ◌++◌, take}
use Rattle.journal_model.specs.declared.entries.Change.{Change}
use Rattle.journal_model.specs.declared.entries.Entry.{Entry}
use Rattle.journal_model.specs.declared.entries.Entry.TheVariants.{Changed, Stopped}

-- a change joins the log, and a stop cuts it to the changes that it kept
abbrev pub log_after : List Change → Entry → List Change
log_after log (Changed number change) = log ++ change ∷ []
log_after log (Stopped kept) = take kept log
log_after log entry = log
