-- `telling::number_and_share` meets its contract: each arm is a case of punctuality. Assumes nothing.
use Rattle.std.proofs.Common.{ap, sym}
use lib.Ieee.{of_bits}
use Rattle.rules.specs.Answers.{punctuality_number, punctuality_value}
use Rattle.out_figures.specs.Answers.{case_of}
use Rattle.telling.proofs.number_and_share.Goals as goal

pub returns-in-Refused : goal.returns-in-Refused
unfolding of_bits
returns-in-Refused c = sym (ap (λ p. (punctuality_number (case_of p), punctuality_value (case_of p))) c.in-Refused.is)

pub returns-in-Never : goal.returns-in-Never
unfolding of_bits
returns-in-Never c = sym (ap (λ p. (punctuality_number (case_of p), punctuality_value (case_of p))) c.in-Never.is)

pub returns-in-Always : goal.returns-in-Always
unfolding of_bits
returns-in-Always c = sym (ap (λ p. (punctuality_number (case_of p), punctuality_value (case_of p))) c.in-Always.is)
