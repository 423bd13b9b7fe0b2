use Rattle.std.proofs.Common.{map, ap, rules, ◌∷◌, ◌∙◌}
use Rattle.std.specs.Prelude.{string_bytes}
use Rattle.commands.proofs.Taking.{before_first, before_more, before_end}
use Rattle.commands.proofs.options.Options.parse.Goals as goal

pub loop-word-init : goal.loop-word-init
loop-word-init c = before_first (map string_bytes c.args.words.now) _ (search rules)

pub loop-word-preserved : goal.loop-word-preserved
loop-word-preserved c =
    before_more (map string_bytes c.args.words.now) (map string_bytes c.loop-word.rest.now) (map string_bytes c.in-Some-split_first.others.now)
    (string_bytes c.in-Some.word.now) (string_bytes c.in-Some-split_first.value.now) c.in-Some-of.name c.loop-word.options c.take.new.self
    c.loop-word.invariant
    (ap (map string_bytes) (c.in-Some.ensures.cases.0 ∙ ap (λ r. c.in-Some.word.now ∷ r) c.in-Some-split_first.ensures.cases.0))
    (search rules)
    (search rules)

pub returns : goal.returns
returns c = before_end string_bytes (map string_bytes c.args.words.now) c.loop-word.rest.now c.loop-word.options c.in_default.ensures.cases c.loop-word.invariant
