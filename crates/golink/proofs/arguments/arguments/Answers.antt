use Rattle.golink.proofs.SomeWords.{some_words}
use Rattle.golink.proofs.arguments.arguments.Goals as goal

pub returns-in-Ok-Some : goal.returns-in-Ok-Some
returns-in-Ok-Some g c = some_words _ _ c.unreadable.result c.unreadable.ensures
