-- The hash that a call asks for.
use Rattle.hashsum_core.proofs.Common.{if◌then◌else◌, ◌≡◌, inl, inr, ℕ, zero, suc, Bool, true, false, List, [], ◌∷◌, fold, codes, Option, Some, None, IsSome, Contains, refl, sym, ap, ◌∙◌, subst, arith, false≢true, or_left, or_right, Sum, Tells, Saying, given, value_after, value_of, Opens, is_named, kind_of, kinds, poly61_at_both, siphash24_at, sum_of, find, TellsAny, asked, asks_for, asks_for_keyed, asks_for_poly61, asks_for_siphash24, is_by_name, key_file, key_rule, misuse_of, GivesKeys, HasEndedWell, AreKeysFor, ArePoly61Keys, MayBeKeys, sum_under, name_in, nat_tests, common_steps}
use Rattle.cli.specs.Call.Saying.{Gives, Operand, Errs}
use Rattle.hashsum_core.specs.declared.keys.KeyRule.{KeyRule}
use Rattle.hashsum_core.specs.declared.keys.KeyRule.TheVariants.{Any, Poly61}
use Rattle.hash_lines.specs.declared.sums.Sum.TheVariants as sum
use Rattle.hashsum_core.proofs.NameLemmas.{found_alike, some_same}

-- one thing alone is there
pub only_one : (kind other : Sum) → Contains (kind ∷ []) other → other ≡ kind
only_one kind other (zero, below, is) = sym is
only_one kind other (suc k, below, is) = absurd (omega (arith, below))

-- a line of the one hash that is taken tells that
line_one : (kind other : Sum) (name : List ℕ) (number : ℕ) (line : List ℕ) → Tells (kind ∷ []) kind other name number line → other ≡ kind
line_one kind other name number line (inl (inl (here, tells))) = only_one kind other here
line_one kind other name number line (inl (inr (is, tells))) = is
line_one kind other name number line (inr (body, begins, inl (here, tells))) = only_one kind other here
line_one kind other name number line (inr (body, begins, inr (is, tells))) = is

pub any_one : (sfv : Bool) (kind other : Sum) (name : List ℕ) (number : ℕ) (line : List ℕ)
    → TellsAny sfv (kind ∷ []) kind other name number line → other ≡ kind
any_one sfv kind other name number line (inl tells) = line_one kind other name number line tells
any_one sfv kind other name number line (inr (none, (rest, trims, inl (plain, form, tells)))) = line_one kind other name number plain tells
any_one sfv kind other name number line (inr (none, (rest, trims, inr (takes, nothing, (plain, form, tells))))) =
    line_one kind other name number plain tells

-- by computing
poly61_found : find (λ kind. is_named (codes "poly61") (name_in kind)) (kinds true) ≡ Some sum.Poly61
unfolding kinds
poly61_found = refl

siphash24_found : find (λ kind. is_named (codes "siphash24") (name_in kind)) (kinds true) ≡ Some sum.SipHash24
unfolding kinds
siphash24_found = refl

-- a call that asks for a name under which a hash is found
module _ (opens : Opens) (call : List Saying) (name : List ℕ) (it : Sum)
    (found : find (λ kind. is_named name (name_in kind)) (kinds true) ≡ Some it) where
  named_so : (word : Option (List ℕ)) → asked call ≡ word → is_by_name name word ≡ true → (ended : HasEndedWell opens call)
      → ended.kind ≡ it
  named_so None is asks ended = let clash : false ≡ true = asks in cc
  named_so (Some word) is asks ended =
      some_same (sym ended.is_asked ∙ ap (kind_of (kinds true)) is ∙ found_alike (kinds true) name word asks ∙ found)

  sum_is : asks_for name call ≡ true → (ended : HasEndedWell opens call) → (keys : ℕ × ℕ) → ended.keys ≡ Some keys
      → sum_under ended.keys ended.kind ≡ sum_of keys it
  sum_is asks ended keys are =
      ap (λ k. sum_under k ended.kind) are ∙ ap (λ kind. sum_of keys kind) (named_so (asked call) refl asks ended)

-- ---- the keys of a call

value_stays : (name : List ℕ) (call : List Saying) (value : List ℕ) → IsSome (fold (value_after name) (Some value) call)
value_stays name [] value = refl
value_stays name (Gives other new ∷ more) value = grind (arith, value_stays name more new, value_stays name more value)
value_stays name (Operand word ∷ more) value = value_stays name more value
value_stays name (Errs misgiven word ∷ more) value = value_stays name more value

-- an option that is given has a value
has_value : (name : List ℕ) (call : List Saying) (before : Option (List ℕ)) → given name call ≡ true
    → IsSome (fold (value_after name) before call)
has_value name [] before gives = absurd (false≢true gives)
has_value name (Gives other value ∷ more) before gives =
    grind (arith, gives, value_stays name more value, has_value name more before)
has_value name (Operand word ∷ more) before gives = has_value name more before gives
has_value name (Errs misgiven word ∷ more) before gives = has_value name more before gives

-- a call that asks for a hash under keys, and with which nothing is wrong, gives a key file
gives_file : (call : List Saying) → misuse_of call ≡ None → asks_for_keyed call ≡ true → given (codes "key-file") call ≡ true
gives_file call no_misuse asks = grind (arith, no_misuse, asks)

-- the keys under which such a call ended well are those in its key file
keys_given : (opens : Opens) (call : List Saying) (rule : KeyRule) → misuse_of call ≡ None
    → asks_for_keyed call ≡ true → (keys : Option (ℕ × ℕ)) → AreKeysFor rule opens (key_file call) keys
    → (pair : ℕ × ℕ) × (keys ≡ Some pair) × GivesKeys opens call pair × MayBeKeys rule pair
keys_given opens call rule no_misuse asks keys are =
    at (value_of (codes "key-file") call) refl (has_value (codes "key-file") call None (gives_file call no_misuse asks))
    are
  where
    at : (file : Option (List ℕ)) → value_of (codes "key-file") call ≡ file → IsSome file → AreKeysFor rule opens file keys
        → (pair : ℕ × ℕ) × (keys ≡ Some pair) × GivesKeys opens call pair × MayBeKeys rule pair
    at None is some are = absurd (false≢true some)
    at (Some file) is some (pair, same, has, may) = (pair, same, (file, is, has), may)

-- poly61 and siphash24 have two names
not_both : (call : List Saying) → asks_for_poly61 call ≡ true → asks_for_siphash24 call ≡ false
not_both call asks = grind (arith, nat_tests, common_steps)

pub under_poly61 : (opens : Opens) (call : List Saying) → asks_for_poly61 call ≡ true → (ended : HasEndedWell opens call)
    → (keys : ℕ × ℕ) × GivesKeys opens call keys × ArePoly61Keys keys × (sum_under ended.keys ended.kind ≡ poly61_at_both keys)
under_poly61 opens call asks ended =
    let (keys, are, gives, fit) = keys_given opens call Poly61 ended.no_misuse (or_left _ _ asks) ended.keys
    (subst (λ (b : Bool). AreKeysFor (if b then Any else Poly61) opens (key_file call) ended.keys) (not_both call asks) ended.are_keys) in
    (keys, gives, fit, sum_is opens call (codes "poly61") sum.Poly61 poly61_found asks ended keys are)

pub under_siphash24 : (opens : Opens) (call : List Saying) → asks_for_siphash24 call ≡ true → (ended : HasEndedWell opens call)
    → (keys : ℕ × ℕ) × GivesKeys opens call keys × (sum_under ended.keys ended.kind ≡ siphash24_at keys)
under_siphash24 opens call asks ended =
    let (keys, are, gives, any) = keys_given opens call (key_rule call) ended.no_misuse (or_right _ _ asks)
    ended.keys ended.are_keys in
    (keys, gives, sum_is opens call (codes "siphash24") sum.SipHash24 siphash24_found asks ended keys are)
