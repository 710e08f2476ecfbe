use Rattle.std.proofs.Common.{◌≡◌, ◌+◌, ◌-◌, ◌++◌, ℕ, List, length, take, drop, sym, ap, ◌∙◌, arith}
use Rattle.std.proofs.lemmas.List.{append_assoc, drop-drop}
use Rattle.glk_image.proofs.contents.write_at.Goals as goal

pub returns : goal.returns
returns c =
    let at : ℕ = c.args.at in
    let xs : List ℕ = c.args.part.now in
    let ys : List ℕ = c.args.bytes.now in
    let n : ℕ = length ys in
    let wide : at + n - at ≡ n = omega arith in
    ap (λ k. take at xs ++ (c.copy_from_slice.new.self ++ drop k (drop at xs))) wide
    ∙ (ap (λ l. take at xs ++ (c.copy_from_slice.new.self ++ l)) (drop-drop n at xs)
    ∙ (sym (append_assoc (take at xs) c.copy_from_slice.new.self (drop (at + n) xs))
    ∙ ap (λ l. take at xs ++ l ++ drop (at + n) xs) c.copy_from_slice.ensures.after))
