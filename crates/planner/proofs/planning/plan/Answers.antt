use Rattle.planner.proofs.planning.plan.Goals as goal

pub returns-in_ok-plan-in-Drive-clause-asked : goal.returns-in_ok-plan-in-Drive-clause-asked
returns-in_ok-plan-in-Drive-clause-asked g c = rw c.in_ok-plan-in-Drive.ensures.drive (rw c.in-Drive.is at c.in_ok-choose_drive.ensures.asked)
