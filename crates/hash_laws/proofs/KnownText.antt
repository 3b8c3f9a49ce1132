-- What was read of a reader whose bytes are known.
use Rattle.std.proofs.Common.{ℕ, ◌≡◌, ◌<◌, ◌≤◌, ◌↔◌, min, Bool, true, false, List, ◌++◌, Option, Some, None, Result, Ok, Err, IfOk, IsTrue, length, take, fold, refl, ap, sym, ◌∙◌, subst, arith}
use Rattle.std.proofs.Math.Arith.{lt_of_le-ne}
use Rattle.std.proofs.lemmas.Bool.{false≢true}
use Rattle.std.proofs.lemmas.List.{append-nil, take-append-le, take_all, length-take}
use Rattle.std.specs.Io.KnownBytes.{Consumes, IsAtEnd}
use Rattle.hash_laws.specs.Reading.{cut, FeedsRead, FeedsFirst, FeedsAll, HashesRead, HashesFirst, HashesAll, StandsFirst}

-- four facts of a result's value
pub at_each : {A E : Type 0} {P Q R S T : A → Type 0} (result : Result A E) → IfOk result P → IfOk result Q → IfOk result R → IfOk result S
    → ((x : A) → P x → Q x → R x → S x → T x) → IfOk result T
at_each (Ok x) p q r s each = each x p q r s
at_each (Err e) p q r s each = tt

first_read : (left' : Option (List ℕ)) (bytes text : List ℕ) → Consumes (Some bytes) left' text → take (length text) bytes ≡ text
first_read None bytes text never = absurd never
first_read (Some rest) bytes text parts =
    ap (take (length text)) parts ∙ take-append-le (length text) text rest (omega arith) ∙ take_all (length text) text (omega arith)

all_read : (left' : Option (List ℕ)) (bytes text : List ℕ) → Consumes (Some bytes) left' text → IsAtEnd left' → text ≡ bytes
all_read None bytes text never end = absurd never
all_read (Some rest) bytes text parts end = sym (parts ∙ ap (λ more. text ++ more) end ∙ append-nil text)

module _ {S : Type 0} (after : S → List ℕ → S) (n : ℕ) (left left' : Option (List ℕ)) (s s' : S) (count : ℕ)
    (fed : FeedsRead after n left left' s s' count) where
  pub FeedsFirst-fed : FeedsFirst after n left s s' count
  FeedsFirst-fed = λ bytes known.
      let read = subst (λ l. Consumes l left' fed.text) known fed.read in
      fed.fed ∙ ap (λ text. fold after s (cut n text)) (sym (ap (λ k. take k bytes) (sym fed.count) ∙ first_read left' bytes fed.text read))

  pub FeedsAll-fed : IsAtEnd left' → FeedsAll after n left s s'
  FeedsAll-fed end = λ bytes known.
      fed.fed ∙ ap (λ text. fold after s (cut n text)) (all_read left' bytes fed.text
      (subst (λ l. Consumes l left' fed.text) known fed.read) end)

module _ {H S : Type 0} (state : H → S) (after : S → List ℕ → S) (stands_at : H → List ℕ → List ℕ → Type 0)
    (left left' : Option (List ℕ)) (h h' : H) (count : ℕ) (read : HashesRead state after stands_at left left' h h' count) where
  consumed : (bytes : List ℕ) → left ≡ Some bytes → Consumes (Some bytes) left' read.text
  consumed bytes known = subst (λ l. Consumes l left' read.text) known read.read

  taken : (bytes : List ℕ) → left ≡ Some bytes → read.text ≡ take count bytes
  taken bytes known = sym (ap (λ k. take k bytes) (sym read.count) ∙ first_read left' bytes read.text (consumed bytes known))

  pub HashesFirst-read : HashesFirst after left (state h) (state h') count
  HashesFirst-read = λ bytes known. read.hashed ∙ ap (after (state h)) (taken bytes known)

  pub StandsFirst-read : StandsFirst stands_at left h h' count
  StandsFirst-read = λ bytes from before known stood.
      subst (λ text. stands_at h' from (before ++ text)) (taken bytes known) (read.stands from before stood)

  pub HashesAll-read : IsAtEnd left' → HashesAll after left (state h) (state h')
  HashesAll-read end = λ bytes known. read.hashed ∙ ap (after (state h)) (all_read left' bytes read.text (consumed bytes known) end)

  -- up to a limit
  module _ (limit : ℕ) (ended : Bool) (within : count ≤ limit) (at_limit : (ended ≡ false) ↔ (count ≡ limit))
      (nothing_left : IsTrue ended → IsAtEnd left') where
    length_read : (bytes : List ℕ) → left ≡ Some bytes → count ≤ length bytes
    length_read bytes known = omega (arith, ap length (taken bytes known), length-take count bytes, read.count)

    length_ended : (bytes : List ℕ) → left ≡ Some bytes → IsTrue ended → count ≡ length bytes
    length_ended bytes known end =
        sym read.count ∙ ap length (all_read left' bytes read.text (consumed bytes known) (nothing_left end))

    by_end : (P : Type 0) → (IsTrue ended → P) → (count ≡ limit → P) → P
    by_end P met_end met_limit = at ended refl
      where
        at : (b : Bool) → ended ≡ b → P
        at true is = met_end is
        at false is = met_limit (at_limit.0 is)

    pub count_known : (bytes : List ℕ) → left ≡ Some bytes → count ≡ min limit (length bytes)
    count_known bytes known = by_end (count ≡ min limit (length bytes))
        (λ end. omega (arith, length_ended bytes known end, within))
        (λ met. omega (arith, met, length_read bytes known))

    pub ended_known : (bytes : List ℕ) → left ≡ Some bytes → IsTrue ended ↔ (length bytes < limit)
    ended_known bytes known = (
      (λ end. lt_of_le-ne (omega (arith, length_ended bytes known end, within))
          (λ met. false≢true (sym (at_limit.1 (length_ended bytes known end ∙ met)) ∙ end))),
      (λ short. by_end (IsTrue ended) (λ end. end) (λ met. absurd (omega (arith, met, length_read bytes known, short)))),
    )

    take_known : (bytes : List ℕ) → left ≡ Some bytes → take count bytes ≡ take limit bytes
    take_known bytes known = by_end (take count bytes ≡ take limit bytes)
        (λ end. let all = length_ended bytes known end in
        take_all count bytes (omega (arith, all)) ∙ sym (take_all limit bytes (omega (arith, all, within))))
        (λ met. ap (λ k. take k bytes) met)

    pub HashesFirst-limit : HashesFirst after left (state h) (state h') limit
    HashesFirst-limit = λ bytes known. HashesFirst-read bytes known ∙ ap (after (state h)) (take_known bytes known)

    pub StandsFirst-limit : StandsFirst stands_at left h h' limit
    StandsFirst-limit = λ bytes from before known stood.
        subst (λ text. stands_at h' from (before ++ text)) (take_known bytes known) (StandsFirst-read bytes from before known stood)
