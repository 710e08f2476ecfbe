use Rattle.glk_arena.proofs.StoredLemmas.{stored_whole}
use Rattle.glk_arena.proofs.stored.LoadedPackage.new.Goals as goal

pub returns-clause-whole : goal.returns-clause-whole
returns-clause-whole c = record { objects = stored_whole c.args.file c.args.objects.list.items c.requires.each; fit = c.requires.fit }
