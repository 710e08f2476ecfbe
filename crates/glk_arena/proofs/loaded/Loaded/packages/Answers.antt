use Rattle.std.proofs.Common.{List, subst, All}
use Rattle.glk_obj.specs.Object.{IsObject}
use Rattle.glk_arena.specs.World.{Package, objects_of}
use Rattle.glk_arena.proofs.WorldLemmas.{all_objects}
use Rattle.glk_arena.proofs.loaded.Loaded.packages.Goals as goal

pub returns-clause-objects : goal.returns-clause-objects
returns-clause-objects c = subst (λ (w : List Package). All IsObject (objects_of w)) c.self.view_is (all_objects _ c.self.invariant.tables.whole)
