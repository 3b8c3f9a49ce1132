use Rattle.hash_lines.proofs.forms.blank_form.Goals as goal

pub returns-in-None : goal.returns-in-None
returns-in-None c = λ plain (digits, behind, has, is). c.in-None.ensures digits behind has
