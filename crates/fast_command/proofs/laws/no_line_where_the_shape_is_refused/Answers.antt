use Rattle.fast_command.proofs.Shapes.{no_line, refused_for_shape}
use Rattle.fast_command.proofs.laws.no_line_where_the_shape_is_refused.Goals as goal

pub returns-clause-refused : goal.returns-clause-refused
returns-clause-refused c = λ form set d m sound. refused_for_shape form set d m sound

pub returns-clause-no_line : goal.returns-clause-no_line
returns-clause-no_line c = λ form set d m f sound. no_line form set d m sound f
