use Rattle.std.proofs.Common.{◌≡◌, ◌<◌, ◌+◌, ◌++◌, ◌∷◌, [], ◌∙◌, List, ℕ, length, drop, get_or, ap, subst, arith}
use Rattle.std.specs.List.{sum_by}
use Rattle.std.proofs.lemmas.List.{length_push}
use Rattle.std.proofs.lemmas.List.Sums.{sum_by-cons, sum_by_push}
use Rattle.glk_package.specs.PackageRefusal.{IsRefusedFor}
use Rattle.glk_arena.specs.World.{Package, rules_so_far, file_bytes}
use Rattle.glk_arena.specs.Waves.{file_of}
use Rattle.glk_arena.specs.LoadParts.{inputs_by, IsPackageIn, IsFormatRefusal}
use Rattle.glk_arena.proofs.FormatLemmas.{FormatsOn, formats_start, formats_more, formats_fault, formats_end, no_rest}
use Rattle.glk_arena.proofs.parse_packages.append_wave.Goals as goal

-- the files that are left
front : (all rest : List (List ℕ)) (file : List ℕ) → all ≡ file ∷ rest → (length all ≡ length rest + 1) × (sum_by length all ≡ length file + sum_by length rest)
front all rest file e = (ap length e ∙ omega arith, ap (sum_by length) e ∙ sum_by-cons length file rest)

pub loop-file-init : goal.loop-file-init
loop-file-init c = record { all = c.requires.all; small = c.requires.small; on = formats_start (inputs_by c.args.loader) c.args.files.items c.args.names.now c.args.earlier }

pub get-name-requires : goal.get-name-requires
get-name-requires c =
    let parts = front c.loop-file.rest.items c.pop_front.new.self.items c.in-Some.file c.in-Some.ensures.items in
    omega (arith, parts.0, c.loop-file.invariant.all, c.packages.ensures.value)

pub push-requires-clause-few : goal.push-requires-clause-few
push-requires-clause-few c =
    let parts = front c.loop-file.rest.items c.pop_front.new.self.items c.in-Some.file c.in-Some.ensures.items in
    omega (arith, parts.0, c.loop-file.invariant.all, c.requires.few)

pub push-requires-clause-small : goal.push-requires-clause-small
push-requires-clause-small c =
    let parts = front c.loop-file.rest.items c.pop_front.new.self.items c.in-Some.file c.in-Some.ensures.items in
    omega (arith, parts.1, c.loop-file.invariant.small, ap (λ p. length p.file) c.in-Ok.ensures.ok.is)

pub loop-file-smaller : goal.loop-file-smaller
loop-file-smaller c =
    let parts = front c.loop-file.rest.items c.pop_front.new.self.items c.in-Some.file c.in-Some.ensures.items in
    omega (arith, parts.0)

pub loop-file-preserved : goal.loop-file-preserved
loop-file-preserved c =
    let parts = front c.loop-file.rest.items c.pop_front.new.self.items c.in-Some.file c.in-Some.ensures.items in
    let now : List Package = c.loop-file.list in
    let next : List Package = c.in_ok-list-in-Ok.list in
    let more : next ≡ now ++ c.in-Ok.package ∷ [] = c.in_ok-list-in-Ok.ensures in
    let inside : length now < length c.args.names.now = omega (arith, parts.0, c.loop-file.invariant.all) in
    let name : c.get-name.result.now ≡ get_or c.args.names.now (length now) [] = c.get-name.ensures ∙ ap (λ k. get_or c.args.names.now k []) c.packages.ensures.value in
    let is : IsPackageIn (rules_so_far now) (get_or c.args.names.now (length now) []) c.in-Some.file c.in-Ok.package = rw (c.rules.ensures, name) at c.in-Ok.ensures.ok in
    let F : List (List ℕ) → Type 0 = λ r. FormatsOn (inputs_by c.args.loader) (rules_so_far c.args.earlier) (drop (length c.args.earlier) c.args.names.now) c.args.files.items c.args.earlier now c.args.names.now r in
    let on = subst F c.in-Some.ensures.items c.loop-file.invariant.on in
    record {
      all = omega (arith, parts.0, c.loop-file.invariant.all, ap length more, length_push now c.in-Ok.package);
      small = omega (arith, parts.1, c.loop-file.invariant.small, ap (λ p. length p.file) c.in-Ok.ensures.ok.is, ap file_bytes more, sum_by_push (λ p. length p.file) now c.in-Ok.package);
      on = formats_more (inputs_by c.args.loader) _ _ _ c.args.earlier now next c.args.names.now c.pop_front.new.self.items c.in-Some.file c.in-Ok.package inside is more on;
    }

pub returns-in-Err-clause-err : goal.returns-in-Err-clause-err
returns-in-Err-clause-err c =
    let parts = front c.loop-file.rest.items c.pop_front.new.self.items c.in-Some.file c.in-Some.ensures.items in
    let now : List Package = c.loop-file.list in
    let inside : length now < length c.args.names.now = omega (arith, parts.0, c.loop-file.invariant.all) in
    let name : c.get-name.result.now ≡ get_or c.args.names.now (length now) [] = c.get-name.ensures ∙ ap (λ k. get_or c.args.names.now k []) c.packages.ensures.value in
    let lies : c.as_bytes-path.result.now ≡ file_of (inputs_by c.args.loader) (get_or c.args.names.now (length now) []) =
    c.as_bytes-path.ensures.value ∙ (c.file_of.ensures ∙ ap (file_of (inputs_by c.args.loader)) name) in
    let F : List (List ℕ) → Type 0 = λ r. FormatsOn (inputs_by c.args.loader) (rules_so_far c.args.earlier) (drop (length c.args.earlier) c.args.names.now) c.args.files.items c.args.earlier now c.args.names.now r in
    let on = subst F c.in-Some.ensures.items c.loop-file.invariant.on in
    let err : IsRefusedFor (IsFormatRefusal (rules_so_far now) c.in-Some.file c.as_bytes-path.result.now) c.in-Err.fault = rw c.rules.ensures at c.in-Err.ensures.err in
    formats_fault (inputs_by c.args.loader) _ _ _ c.args.earlier now c.args.names.now c.pop_front.new.self.items c.in-Some.file c.as_bytes-path.result.now c.in-Err.fault inside lies on err

pub returns-clause-ok : goal.returns-clause-ok
returns-clause-ok c =
    let none : c.loop-file.rest.items ≡ [] = no_rest c.loop-file.rest.items c.pop_front.new.self.items c.in_default.ensures.items c.in_default.ensures.rest in
    let F : List (List ℕ) → Type 0 = λ r. FormatsOn (inputs_by c.args.loader) (rules_so_far c.args.earlier) (drop (length c.args.earlier) c.args.names.now) c.args.files.items c.args.earlier c.loop-file.list c.args.names.now r in
    let on = subst F none c.loop-file.invariant.on in
    record {
      wave = on.wave;
      now_is = on.now_is;
      formats = formats_end (inputs_by c.args.loader) _ _ _ c.args.earlier c.loop-file.list c.args.names.now (omega (arith, ap length none, c.loop-file.invariant.all)) on;
    }
