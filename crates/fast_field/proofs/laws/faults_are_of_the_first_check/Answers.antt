use Rattle.fast_field.proofs.FieldFaults.{fault_stops, stops_fault}
use Rattle.fast_field.proofs.laws.faults_are_of_the_first_check.Goals as goal

pub returns-clause-stops : goal.returns-clause-stops
returns-clause-stops c = fault_stops

pub returns-clause-only : goal.returns-clause-only
returns-clause-only c = stops_fault
