use Rattle.hash_lines.proofs.forms.tagged_form.Goals as goal

pub returns-in-None : goal.returns-in-None
returns-in-None c = λ plain (tag, shown, digits, has, is). c.in-None.ensures tag shown digits has
