use Rattle.hash_uses.proofs.theorems.checked_files_are_as_told.Goals as goal

pub returns : goal.returns
returns g c folder call texts written written' outcome works checks ends zero =
    let ended = c.a_call_that_ends_well.ensures folder call texts written written' outcome works checks ends zero in (
      ended,
      λ list kind name number is_list told.
          c.what_a_call_is_told_is_so.ensures folder call ended list is_list kind name number told,
    )
