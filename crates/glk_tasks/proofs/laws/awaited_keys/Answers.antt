use Rattle.glk_tasks.proofs.Awaited.{awaited_keys}
use Rattle.glk_tasks.proofs.laws.awaited_keys.Goals as goal

pub returns : goal.returns
returns c = awaited_keys
