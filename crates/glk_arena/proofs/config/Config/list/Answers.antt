use Rattle.std.proofs.Common.{◌≡◌, ◌∙◌, ap, Some, cond, Option, refl, Bool, true, false}
use Rattle.std.specs.Option.{option_map}
use Rattle.std.specs.String.{string_bytes}
use Rattle.std.specs.Str.{bytes_eq}
use Rattle.std.specs.Map.{lookup}
use Rattle.glk_arena.specs.ConfigViews.{file_in}
use Rattle.glk_arena.proofs.ConfigLemmas.{takes_one}
use Rattle.glk_arena.proofs.Tables.{look_inserted}
use Rattle.glk_arena.proofs.config.Config.list.Goals as goal

mapped : {A B : Type 0} (f : A → B) (b : Bool) (x : A) (o : Option A) → option_map f (cond b (Some x) o) ≡ cond b (Some (f x)) (option_map f o)
mapped f true x o = refl
mapped f false x o = refl

pub returns : goal.returns
returns c =
    let key = c.in_ok-key.ensures.items_if_clones_equal (λ x y e. e) in
    let entries = c.in_ok-insert.ensures.entries in
    let text = c.in_ok-file.ensures.ok in
    record {
      each = λ path.
          let found = look_inserted (λ k. k.items) c.args.self.now.files.entries c.in_ok-key.key c.in_ok-file.file path in
          takes_one c.args.line.now c.args.path.now c.args.file.now path (file_in c.args.self.now path) _ c.requires
          (ap (λ es. option_map string_bytes (lookup (λ k. bytes_eq path k.items) es)) entries ∙ ap (option_map string_bytes) found ∙ mapped string_bytes (bytes_eq path c.in_ok-key.key.items) c.in_ok-file.file _ ∙ cc (key, text));
    }
