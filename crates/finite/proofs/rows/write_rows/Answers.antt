use Rattle.std.proofs.Common.{◌≡◌, ℕ, ◌+◌, ◌-◌, ◌*◌, ◌/◌, ◌%◌, List, ◌++◌, length, take, drop, ap, ◌∙◌, subst, arith, length-append}
use Rattle.std.proofs.lemmas.List.{length-map}
use Rattle.rules.specs.Local.{the_rule}
use Rattle.rules.specs.Rows.{Puts}
use Rattle.rules.proofs.Writing.{puts_behind}
use Rattle.finite.specs.Diamonds.{firsts, seconds}
use Rattle.finite.proofs.Splitting.{map_table}
use Rattle.finite.proofs.rows.write_rows.Goals as goal

pub returns : goal.returns
returns c p block =
    let d = c.args.diamonds in
    let r = the_rule d.rule.local in
    let v = c.args.symbols.now in
    let x = p ++ firsts r v in
    let y = p ++ seconds r v in
    let first = map_table (λ e. e / r.kinds) (r.kinds * r.kinds) d.symbols.firsts.now (λ i h. d.symbols.first i (omega (arith, d.all_symbols)) ∙ ap (λ b. i / b) d.symbols_of_cells) v c.requires.symbols in
    let second = map_table (λ e. e % r.kinds) (r.kinds * r.kinds) d.symbols.seconds.now (λ i h. d.symbols.second i (omega (arith, d.all_symbols)) ∙ ap (λ b. i % b) d.symbols_of_cells) v c.requires.symbols in
    let one : Puts c.args.out.now c.write_row.new.out x = subst (λ z. Puts c.args.out.now c.write_row.new.out (p ++ z)) first (c.write_row.ensures p block) in
    let n : ℕ = c.wide.result - 1 + length v in
    let behind : List ℕ = take (length c.write_row.new.out - n) (drop n c.write_row.new.out) in
    let other : Puts behind c.write_row-2.new.out y = subst (λ z. Puts behind c.write_row-2.new.out (p ++ z)) second (c.write_row-2.ensures p block) in
    let long : n ≡ length x = omega (arith, length-append p (firsts r v), length-map v (λ e. e / r.kinds), block.long) in
    puts_behind c.args.out.now c.write_row.new.out c.write_row-2.new.out x y n long (omega arith) (omega arith) one other
