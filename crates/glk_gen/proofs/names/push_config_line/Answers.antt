use Rattle.std.proofs.Common.{◌≡◌, ◌∙◌, ap, ◌++◌, List, ℕ, append_assoc}
use Rattle.std.specs.Prelude.{codes, decimal}
use Rattle.glk_gen.proofs.names.push_config_line.Goals as goal

-- the pieces of a line as they are printed, and as the line has them
regroup : (out word path digits sign end newline : List ℕ) → out ++ (word ++ (path ++ (digits ++ (sign ++ (path ++ (digits ++ (end ++ newline)))))))
    ≡ out ++ (word ++ (path ++ digits) ++ sign ++ ((path ++ digits) ++ end) ++ newline)
regroup out word path digits sign end newline = simp append_assoc

pub returns : goal.returns
returns c =
    c.in_ok-extend_from_slice.ensures.items ∙ ap (λ (line : List ℕ). c.args.out.now.items ++ line) (c.as_bytes.ensures.value ∙ c.in_ok-line.ensures.ok)
    ∙ regroup c.args.out.now.items (codes "packagefile ") (codes "p") (decimal c.args.k) (codes "=") (codes ".a") (codes "\n")
