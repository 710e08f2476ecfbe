use Rattle.std.proofs.Common.{◌≤◌, List, ap, length, sym, ◌∙◌, subst}
use Rattle.std.specs.Prelude.{IfOk}
use Rattle.std.specs.List.{All}
use Rattle.glk_closure.specs.Views.{AreBelow}
use Rattle.glk_keys.specs.Programs.{Program}
use Rattle.glk_keys.specs.Rows.{row_count}
use Rattle.glk_readings.specs.Triples.{triples_of}
use Rattle.glk_readings.specs.declared.triples.MethodTriple.{MethodTriple}
use Rattle.glk_reach.specs.Chosen.{relocations_of, symbols_of}
use Rattle.glk_reach.specs.Effects.{method_effects_from, triple_keys}
use Rattle.glk_types.specs.Methods.{count_of}
use Rattle.glk_effects.specs.Views.{Appends}
use Rattle.glk_effects.proofs.MethodSteps.{no_methods, all_methods, key_triples_below}
use Rattle.glk_effects.proofs.Counts.{few_triples_of}
use Rattle.glk_effects.proofs.program.ReadProgram.push_methods.Goals as goal

pub returns-then-not-is_type : goal.returns-then-not-is_type
returns-then-not-is_type c =
    let p = c.args.self.now.merged.now.program in
    no_methods p c.args.key (row_count p) c.args.out.now.items (sym c.if-not-is_type.ensures)

pub push_triples-requires-clause-few : goal.push_triples-requires-clause-few
push_triples-requires-clause-few c =
    let p = c.args.self.now.merged.now.program in
    let P : List MethodTriple → Type 0 = λ xs. IfOk c.in_ok-methods.methods (λ entries. length xs ≤ count_of entries) in
    let e = c.as_slice.ensures.value ∙ c.in_ok-method_triples.ensures ∙ ap (λ (q : Program). triples_of (relocations_of q c.args.key)) c.args.self.now.same in
    subst P (sym e) (few_triples_of (symbols_of p) c.args.key c.in_ok-methods.methods c.in_ok-methods.ensures)

pub push_triples-requires-clause-within : goal.push_triples-requires-clause-within
push_triples-requires-clause-within c =
    let p = c.args.self.now.merged.now.program in
    let P : List MethodTriple → Type 0 = λ xs. All (λ triple. AreBelow (row_count p) (triple_keys triple)) xs in
    let e = c.as_slice.ensures.value ∙ c.in_ok-method_triples.ensures ∙ ap (λ (q : Program). triples_of (relocations_of q c.args.key)) c.args.self.now.same in
    subst P (sym e) (key_triples_below p c.args.key c.args.id.0 c.requires.chosen c.requires.row)

pub returns : goal.returns
returns c =
    let p = c.args.self.now.merged.now.program in
    let P : List MethodTriple → Type 0 = λ xs. Appends (row_count p) c.args.out.now.items c.push_triples.new.out.items (method_effects_from p c.args.key 0 xs) in
    let e = c.as_slice.ensures.value ∙ c.in_ok-method_triples.ensures ∙ ap (λ (q : Program). triples_of (relocations_of q c.args.key)) c.args.self.now.same in
    all_methods p c.args.key (row_count p) c.args.out.now.items c.push_triples.new.out.items (sym c.if-not-is_type.ensures) (subst P e c.in_ok-push_triples.ensures)
