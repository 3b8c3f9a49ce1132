use Rattle.hash_lines.proofs.forms.sfv_form.Goals as goal

pub returns-in-None : goal.returns-in-None
returns-in-None c = λ plain (shown, digits, has, is). c.in-None.ensures shown digits has
