use Rattle.std.proofs.Common.{rules}
use Rattle.weighing.proofs.Joining.{code_product_fits, code_sum_fits, code_joins}
use Rattle.weighing.proofs.MeanWeighing.join.Goals as goal

pub overflow_mul-eighths : goal.overflow_mul-eighths
overflow_mul-eighths c = search code_product_fits

pub overflow_add-start : goal.overflow_add-start
overflow_add-start c = search code_sum_fits

pub returns : goal.returns
returns c = search (rules, code_joins)
