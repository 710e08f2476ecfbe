use Rattle.std.proofs.Common.{◌≡◌, ℕ, ◌-◌, ◌<◌, length, get_or, sym, ap, ◌∙◌, arith}
use Rattle.glk_keys.specs.Programs.{Program}
use Rattle.glk_keys.specs.RowLaws.{own_count}
use Rattle.glk_keys.specs.Rows.{asked_symbols, no_symbol}
use Rattle.glk_keys.proofs.OwnLaws.{own_asked, own_made, own_builtin}
use Rattle.glk_keys.specs.Programs.{no_builtin}
use Rattle.glk_keys.specs.Rows.{builtin_symbol}
use Rattle.glk_keys.proofs.rows.Rows.own.Goals as goal

pub builtin-requires : goal.builtin-requires
builtin-requires c =
    let own = own_count c.args.self.now in
    let long : length c.self.inside.builtins.now ≡ length c.args.self.now.builtins = ap (λ (p : Program). length p.builtins) c.self.view_is in
    let inside = c.requires in
    let past = c.if-i-lt-OWN_COUNT.false in
    omega arith

pub returns-then-i-lt-ASKED_COUNT : goal.returns-then-i-lt-ASKED_COUNT
returns-then-i-lt-ASKED_COUNT c =
    let entry = ap (λ (p : Program). get_or (asked_symbols p.entry) c.args.i no_symbol) c.self.view_is in
    c.asked.ensures ∙ entry ∙ sym (own_asked c.args.self.now c.args.i c.if-i-lt-ASKED_COUNT.true)

pub returns-then-i-lt-OWN_COUNT : goal.returns-then-i-lt-OWN_COUNT
returns-then-i-lt-OWN_COUNT c =
    let low = c.if-i-lt-ASKED_COUNT.false in
    let high = c.if-i-lt-OWN_COUNT.true in
    c.made.ensures ∙ sym (own_made c.args.self.now c.args.i (c.args.i - 8) low (omega arith) (omega arith))

pub returns-else-i-lt-OWN_COUNT : goal.returns-else-i-lt-OWN_COUNT
returns-else-i-lt-OWN_COUNT c =
    let own = own_count c.args.self.now in
    let low = c.if-i-lt-OWN_COUNT.false in
    let inside = c.requires in
    let k : ℕ = c.args.i - 35 in
    let there : k < length c.args.self.now.builtins = omega arith in
    let builtins = ap (λ (p : Program). builtin_symbol (get_or p.builtins k no_builtin)) c.self.view_is in
    c.builtin.ensures ∙ builtins ∙ sym (own_builtin c.args.self.now c.args.i k low there (omega arith))
