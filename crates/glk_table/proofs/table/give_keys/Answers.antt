use Rattle.std.proofs.Common.{ℕ, List, subst}
use Rattle.glk_table.specs.Keys.{IsLawful}
use Rattle.glk_table.proofs.Opening.{gives_keys}
use Rattle.glk_table.proofs.table.give_keys.Goals as goal

pub load-requires : goal.load-requires
load-requires g c =
    let t = c.args.shared.now in
    let s = c.args.seat.now in
    let P : List (ℕ × ℕ) → Type 0 = λ ks. IsLawful ks in
    (c.requires.seat.0, c.requires.seat.1, gives_keys t.key s.id t.table_id.slots s.me g.L.Naming.keys (subst P c.requires.keys.0 ((g.met.K.Keys g.world.𝓛 g.world.𝓜 g.world.𝓡 ((λ s x. x), (λ x. x), (λ x. x), λ x. x)).lawful c.args._keys.now)) c.requires.keys.1 c.requires.seat.2)
