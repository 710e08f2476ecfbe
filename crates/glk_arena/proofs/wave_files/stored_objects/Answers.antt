use Rattle.std.proofs.Common.{List, length, subst, ap, arith}
use Rattle.std.specs.List.{sum_by}
use Rattle.glk_package.specs.ObjectEntry.{ObjectEntry}
use Rattle.glk_arena.specs.Stored.{Stores}
use Rattle.glk_arena.proofs.StoredLemmas.{bytes_are}
use Rattle.glk_arena.proofs.wave_files.stored_objects.Goals as goal

pub returns-in_ok-kept-in-Ok-clause-ok : goal.returns-in_ok-kept-in-Ok-clause-ok
returns-in_ok-kept-in-Ok-clause-ok c =
    let S : List ObjectEntry → Type 0 = λ os. Stores c.args.file.now os c.in_ok-kept-in-Ok.kept in
    record { objects = c.in-Ok.entries.items; holds = c.in-Ok.ensures.ok; stores = subst S c.deref.ensures.value c.in_ok-kept-in-Ok.ensures.same }

pub returns-in_ok-kept-in-Ok-clause-stored : goal.returns-in_ok-kept-in-Ok-clause-stored
returns-in_ok-kept-in-Ok-clause-stored c =
    let S : List ObjectEntry → Type 0 = λ os. Stores c.args.file.now os c.in_ok-kept-in-Ok.kept in
    let stores = subst S c.deref.ensures.value c.in_ok-kept-in-Ok.ensures.same in
    record {
      each = c.in_ok-kept-in-Ok.ensures.stored;
      fit = omega (arith, ap (λ xs. sum_by length xs) stores.data_are, bytes_are c.in-Ok.entries.items, c.in-Ok.ensures.fit);
    }
