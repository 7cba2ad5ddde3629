use Rattle.domain.proofs.Layering.{faults_pass, heights_rise}
use Rattle.domain.proofs.laws.layers_keep_answers.Goals as goal

pub returns-clause-faults : goal.returns-clause-faults
returns-clause-faults c = λ m u n s. faults_pass s

pub returns-clause-heights : goal.returns-clause-heights
returns-clause-heights c = λ m u n s. heights_rise s
