use Rattle.hash_laws.proofs.FrameLemmas.{middles-DifferWithin, middles-DifferAtOnePlace}
use Rattle.hash_laws.proofs.windows.window.texts_of_one_frame.Goals as goal

pub returns-clause-within : goal.returns-clause-within
returns-clause-within c = middles-DifferWithin

pub returns-clause-one_place : goal.returns-clause-one_place
returns-clause-one_place c = middles-DifferAtOnePlace
