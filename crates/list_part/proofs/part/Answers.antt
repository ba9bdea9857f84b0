use Rattle.list_part.proofs.Answers.{found_listed, refused_listed}
use Rattle.list_part.proofs.part.Goals as goal

pub returns-in-Ok : goal.returns-in-Ok
returns-in-Ok c = found_listed c.in-Ok.found.holds c.in-Ok.ensures c.print_listing.ensures

pub returns-in-Err : goal.returns-in-Err
returns-in-Err c = refused_listed c.in-Err.why c.in-Err.ensures c.place.ensures c.print_error.ensures
