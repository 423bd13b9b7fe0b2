use Rattle.std.proofs.lemmas.List.{get_or-replicate}
use Rattle.register.proofs.Latest.{chained_none}
use Rattle.register.proofs.chains.Chains.new.Goals as goal

pub returns : goal.returns
returns c bs = chained_none _ _ bs (λ b l. get_or-replicate 7919 b 0 0 l)
