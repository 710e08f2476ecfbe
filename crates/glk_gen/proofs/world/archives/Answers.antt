use Rattle.std.proofs.Common.{arith, List, ℕ, ◌≡◌, ◌∷◌, ◌++◌, ◌∙◌, ap, map, [], ◌+◌, sym}
use Rattle.std.specs.List.{range_with_len}
use Rattle.std.proofs.lemmas.List.FromFn.{map-range_with_len_more}
use Rattle.glk_gen.specs.Worlds.{package_archive}
use Rattle.glk_gen.proofs.world.archives.Goals as goal

-- one more package file
files_more : (f : ℕ → List ℕ × List ℕ) (first : List ℕ × List ℕ) (k : ℕ) (before after : List (List ℕ × List ℕ)) (x : List ℕ × List ℕ)
    → before ≡ first ∷ map f (range_with_len 0 k) → after ≡ before ++ x ∷ [] → x ≡ f k → after ≡ first ∷ map f (range_with_len 0 (k + 1))
files_more f first k before after x e pushed is =
    pushed ∙ ap (λ (xs : List (List ℕ × List ℕ)). xs ++ x ∷ []) e ∙ ap (λ (y : List ℕ × List ℕ). first ∷ (map f (range_with_len 0 k) ++ y ∷ [])) is
    ∙ ap (λ (xs : List (List ℕ × List ℕ)). first ∷ xs) (sym (map-range_with_len_more f 0 k k (omega arith)))

pub loop-k-preserved : goal.loop-k-preserved
loop-k-preserved c = files_more (package_archive c.args.calls.now.seed c.args.calls.now.functions) _ c.loop-k.k c.loop-k.archives.items c.push-in-loop-k.new.self.items _ c.loop-k.invariant c.in_ok-push-2.ensures.items c.in_ok-package_archive.ensures
