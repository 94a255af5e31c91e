-- The words of a run's answers, as those that a transcript prints.
use Rattle.pblk_model.specs.Text as text
use Rattle.run_threads.specs.declared.records.Word.{Word}
use Rattle.run_threads.specs.declared.records.Word.TheVariants.{Tag, Mixed}

abbrev pub text_word : Word → text.Word
text_word (Tag t) = text.Tag t
text_word Mixed = text.Mixed
