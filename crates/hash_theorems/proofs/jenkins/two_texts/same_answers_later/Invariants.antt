use Rattle.hash_theorems.proofs.JenkinsCommon.{◌≡◌, drop, fold, texts, lookup3_from, lookup3_answer}
use Rattle.hash_theorems.proofs.jenkins.two_texts.same_answers_later.Given as goal

abbrev pub invariant-loop-piece : goal.invariant-loop-piece
invariant-loop-piece l = record {
  first : fold lookup3_from l.a (texts (drop l.piece-index l.pieces)) ≡ fold lookup3_from l.initial.a (texts l.pieces);
  second : fold lookup3_from l.b (texts (drop l.piece-index l.pieces)) ≡ fold lookup3_from l.initial.b (texts l.pieces);
  alike : lookup3_answer l.initial.a ≡ lookup3_answer l.initial.b → lookup3_answer l.a ≡ lookup3_answer l.b;
}
