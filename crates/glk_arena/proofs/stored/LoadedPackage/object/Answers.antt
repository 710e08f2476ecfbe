use Rattle.std.proofs.Common.{◌≡◌, ◌<◌, ◌∙◌, ℕ, List, Option, [], length, get_or, slice_range, ap, sym, subst, map, arith, All}
use Rattle.std.proofs.lemmas.List.{length-map}
use Rattle.glk_obj.specs.Object.{IsObject}
use Rattle.glk_arena.specs.declared.stored.StoredObject.{StoredObject}
use Rattle.glk_arena.specs.World.{Package}
use Rattle.glk_arena.specs.Stored.{stored_data}
use Rattle.glk_arena.proofs.StoredLemmas.{stored_at, stored_whole}
use Rattle.glk_arena.proofs.stored.LoadedPackage.object.Goals as goal

-- what an opened package says of its object i
data_at : (path file : List ℕ) (header : Option (List ℕ)) (held : List StoredObject) (p : Package) (i : ℕ) (h : StoredObject) → record { path = path; file = file; header = header; objects = map (stored_data file) held } ≡ p
    → i < length p.objects → h ≡ get_or held i h → slice_range file h.at h.end ≡ get_or p.objects i []
data_at path file header held p i h view l read =
    let q : Package = record { path = path; file = file; header = header; objects = map (stored_data file) held } in
    let inside : i < length held = omega (arith, l, ap (λ r. length r.objects) view, length-map held (stored_data file)) in
    ap (λ g. slice_range file g.at g.end) read ∙ sym (stored_at file held i h inside) ∙ ap (λ r. get_or r.objects i []) view

pub returns-clause-object : goal.returns-clause-object
returns-clause-object c =
    let all = stored_whole c.self.inside.file c.self.inside.objects.items c.self.invariant.held.each in
    let P : Package → Type 0 = λ p. All IsObject p.objects in
    subst P c.self.view_is all c.args.i [] c.requires

pub returns-clause-value : goal.returns-clause-value
returns-clause-value c =
    let at = data_at _ _ _ _ c.args.self.now c.args.i c.index-object.result.now c.self.view_is c.requires c.index-object.ensures in
    c.view.ensures ∙ ap (λ (xs : List ℕ). slice_range xs c.index-object.result.now.at c.index-object.result.now.end) c.as_bytes.ensures ∙ at
