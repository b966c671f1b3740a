use Rattle.std.proofs.Common.{List, ℕ, rules, filter, not, ap, sym, ◌∙◌}
use Rattle.indexmap.proofs.CallerLemmas.{filter-RetainsPairs}
use Rattle.stream_apply.specs.KeyedLines.{KeyedLine, has_key, lines_of}
use Rattle.stream_apply.proofs.TableLemmas.{lines_of-filter, none_dropped}
use Rattle.stream_apply.proofs.key_table.KeyTable.drop_all.Goals as goal

pub returns : goal.returns
returns c =
    let kept = filter-RetainsPairs _ (λ e. not (has_key c.args.others.now e.0.now)) _ (λ k v b w g call. search rules) _ _ c.retain.ensures.filtered in
    ap lines_of kept
    ∙ lines_of-filter (λ (key : List ℕ). not (has_key c.args.others.now key)) c.self.inside.lines.entries
    ∙ ap (filter (λ (line : KeyedLine). not (has_key c.args.others.now line.key))) c.self.view_is

pub returns-then-len-eq0 : goal.returns-then-len-eq0
returns-then-len-eq0 c = none_dropped c.args.others.now c.args.self.now (sym c.len.ensures.number ∙ c.if-len-eq0.true)
