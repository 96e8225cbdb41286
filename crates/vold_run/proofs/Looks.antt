-- The looks that read the devices, one after another: each is counted by its answer alone.
use Rattle.std.proofs.Common.{◌≡◌, ◌↔◌, sym, ap, ◌∙◌}
use Rattle.std.specs.Prelude.{Result, Ok, Err, IsErrOf}
use Rattle.std.proofs.lemmas.Option.{IfSome_then}
use Rattle.tree_model.specs.declared.device.DevFault.{DevFault}
use Rattle.tree_model.specs.declared.device.DevFault.TheVariants.{Failed}
use Rattle.tree_model.specs.Counted.{Counts, IsCounted}
use Rattle.bench.specs.Bench.{BenchState, Senses, Plain}
use Rattle.vold_book.specs.Stands.{IsLooked}
use Rattle.vold_book.specs.State.{BookState, over, seen}
use Rattle.vold_run.specs.Shown.{IsAnswered, IsFailed}

-- calls that fail in the same way are counted alike
counted_alike : {T U : Type 0} (before after : Counts) (one : Result T DevFault) (other : Result U DevFault)
    → ((fault : DevFault) → IsErrOf one fault ↔ IsErrOf other fault) → IsCounted before after one
    → IsCounted before after other
counted_alike before after one other same counted = record {
  same_plan = counted.same_plan;
  never_falls = counted.never_falls;
  uncounted = λ no. counted.uncounted ((same _).1 no);
  counted = λ some. counted.counted (λ no. some ((same _).0 no));
  failed = λ no. counted.failed ((same _).1 no);
  planned = IfSome_then before.plan counted.planned (λ planned is some.
      let iff = is (λ no. some ((same _).0 no)) in (λ no. iff.0 ((same _).1 no), λ due. (same _).0 (iff.1 due)));
  fault = IfSome_then before.plan counted.fault (λ planned is no. is ((same _).1 no));
  no_fault = IfSome_then before.plan counted.no_fault (λ planned is some. is (λ no. some ((same _).0 no)));
}

-- an answered look
pub answered_look : {T : Type 0} (before after : Counts) (value : T) (result : Result T DevFault) → result ≡ Ok value
    → IsCounted before after result → IsAnswered before after
answered_look before after value result answered counted =
    let look : Result Unit DevFault = Ok tt in
    counted_alike before after result look
    (λ fault. (
      λ no. let never : Ok value ≡ Err fault = sym answered ∙ no in
          cc,
      λ no. let never : look ≡ Err fault = no in cc,
    )) counted

-- a look in which the device failed
pub failed_look : {T : Type 0} (before after : Counts) (result : Result T DevFault) → IsErrOf result Failed
    → IsCounted before after result → IsFailed before after
failed_look before after result failed counted =
    let look : Result Unit DevFault = Err Failed in
    counted_alike before after result look
    (λ fault. (
      λ no. let same : Failed ≡ fault = let e = sym failed ∙ no in cc in ap Err same,
      λ no. let same : Failed ≡ fault = let e : look ≡ Err fault = no in cc in failed ∙ ap Err same,
    )) counted

-- looks one after another are looks
pub looked-joined : {D E F : Type 0} (senses : Senses D E F) (before between after : BookState (BenchState D E F))
    → IsLooked senses before between → IsLooked senses between after → IsLooked senses before after
looked-joined senses before between after first second = record {
  state = second.state ∙ ap (λ book. over book after.bench) first.state;
  same =
      second.same
      ∙ ap (λ (bench : Plain). record bench {
        tree_counts = (seen senses after).bench.tree_counts;
        store_counts = (seen senses after).bench.store_counts;
        ring_counts = (seen senses after).bench.ring_counts;
      }) first.same;
}

-- they leave the disk
pub disk-looked : {D E F : Type 0} (senses : Senses D E F) (before after : BookState (BenchState D E F))
    → IsLooked senses before after → senses.disk after.bench.tree ≡ senses.disk before.bench.tree
disk-looked senses before after looked = ap (λ (bench : Plain). bench.disk) looked.same
