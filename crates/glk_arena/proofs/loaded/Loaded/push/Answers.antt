use Rattle.std.proofs.Common.{◌≡◌, ◌+◌, ◌-◌, ◌∷◌, ◌++◌, [], ◌∙◌, ℕ, List, ap, length, take, replicate, sym, subst, arith, vec_len}
use Rattle.std.specs.Option.{option_or, option_copied}
use Rattle.std.proofs.lemmas.List.{map-append, length-map}
use Rattle.glk_package.specs.WidthRule.{first_width}
use Rattle.glk_arena.specs.World.{Package, paths_of, objects_of, first_header, file_bytes}
use Rattle.glk_arena.proofs.FormatLemmas.{header_push, width_push}
use Rattle.glk_arena.specs.Tables.{IsIndexed, object_number}
use Rattle.glk_arena.specs.PackageViews.{IsTableOf}
use Rattle.glk_arena.proofs.TableLemmas.{tables_more, table_fits, table_symbols_fit}
use Rattle.glk_arena.proofs.loaded.Loaded.push.Goals as goal

pub overflow_cast-first : goal.overflow_cast-first
overflow_cast-first c = let fits = table_fits _ _ _ _ _ _ c.self.invariant.tables in omega (arith, fits, c.len-first.ensures, c.self.inside.owners.ok.0)

pub overflow_cast-symbols : goal.overflow_cast-symbols
overflow_cast-symbols c = let fits = table_symbols_fit _ _ _ _ _ _ c.self.invariant.tables in omega (arith, fits)

pub overflow_add-result-2 : goal.overflow_add-result-2
overflow_add-result-2 c = let fits = table_symbols_fit _ _ _ _ _ _ c.self.invariant.tables in omega (arith, fits, c.symbols-more_symbols.type_inv)

pub invariant_of-result : goal.invariant_of-result
invariant_of-result c =
    let world : List Package = c.self.inside.packages.items in
    let owners : List ℕ = c.self.inside.owners.items in
    let first : c.len-first.result ≡ length owners = omega (arith, c.len-first.ensures, c.self.inside.owners.ok.0) in
    let count : vec_len c.self.inside.owners ≡ length owners = omega (arith, c.self.inside.owners.ok.0) in
    let number : c.len-number.result ≡ length world = omega (arith, c.len-number.ensures, c.self.inside.packages.ok.0) in
    let some : c.len-first.result + c.objects.result ≡ length owners + object_number c.args.last = omega (arith, first, c.objects.ensures) in
    let filled : ℕ → ℕ → List ℕ = λ n p. take n owners ++ replicate (n - vec_len c.self.inside.owners) p in
    let owners_is : c.resize.new.self.items ≡ filled (length owners + object_number c.args.last) (length world) =
    c.in_ok-resize.ensures.items ∙ ap (λ (n : ℕ). filled n c.len-number.result) some ∙ ap (filled (length owners + object_number c.args.last)) number in
    let tables = tables_more world _ _ _ _ _ c.self.invariant.tables c.args.last c.resize.new.self.items c.push.new.self.items c.push-2.new.self.items (vec_len c.self.inside.owners)
    (c.self.inside.bytes + c.bytes-more_bytes.result) (c.self.inside.symbols + c.symbols-more_symbols.result)
    c.requires.whole (omega (arith, c.requires.few, ap length c.self.view_is)) (omega (arith, c.requires.small, ap file_bytes c.self.view_is)) count owners_is
    (c.in_ok-push.ensures.items ∙ ap (λ (k : ℕ). c.self.inside.firsts.items ++ k ∷ []) first) c.in_ok-push-2.ensures.items
    (omega (arith, c.bytes-more_bytes.ensures)) (omega (arith, c.symbols-more_symbols.ensures)) in
    let I : List Package → Type 0 = λ w. IsIndexed w c.resize.new.self.items c.push.new.self.items c.push-2.new.self.items (c.self.inside.bytes + c.bytes-more_bytes.result) (c.self.inside.symbols + c.symbols-more_symbols.result)
    c.in_ok-header.header c.first_of-width.result c.add.new.self in
    let header : c.in_ok-header.header ≡ first_header (world ++ c.args.last ∷ []) =
    c.in_ok-header.ensures ∙ ap (λ o. option_or o (option_copied c.header.result)) c.self.invariant.header_is ∙ ap (option_or (first_header world)) c.header.ensures
    ∙ sym (header_push world c.args.last) in
    let width : c.first_of-width.result ≡ first_width (objects_of (world ++ c.args.last ∷ [])) =
    c.first_of-width.ensures ∙ ap (λ o. option_or o c.hash_width.result) c.self.invariant.width_is ∙ ap (option_or (first_width (objects_of world))) c.hash_width.ensures
    ∙ sym (width_push world c.args.last) in
    let long : length (paths_of world) ≡ c.len-number.result = length-map world (λ p. p.path) ∙ sym number in
    let P : List (List ℕ) → Type 0 = λ ps. IsTableOf ps c.add.new.self in
    let last : paths_of world ++ c.path.result.now ∷ [] ≡ paths_of (world ++ c.args.last ∷ []) =
    ap (λ q. paths_of world ++ q ∷ []) c.path.ensures ∙ sym (map-append (λ p. p.path) world (c.args.last ∷ [])) in
    let paths = subst P last (c.in_ok-add.ensures (paths_of world) long c.self.invariant.paths) in
    let all : I (world ++ c.args.last ∷ []) = record { tables = tables; header_is = header; width_is = width; paths = paths } in
    subst I (sym c.in_ok-push-3.ensures.items) all
