-- Words after which one can't be read.
use Rattle.std.proofs.Common.{ℕ, List}
use Rattle.glk_messages.specs.declared.outcome.Outcome.{Outcome}
use Rattle.glk_messages.specs.declared.outcome.Outcome.TheVariants as outcome
use Rattle.golink.specs.Unreadable.{IsUnreadable, AreUnreadable}

pub some_words : (words : List (List ℕ)) (index : ℕ) (o : Outcome) → IsUnreadable words index o → AreUnreadable o
some_words words index outcome.Done h = absurd h
some_words words index (outcome.Refused refusal) h = absurd h
some_words words index (outcome.Usage bad) h = (words, index, h)
some_words words index outcome.OutOfMemory h = tt
