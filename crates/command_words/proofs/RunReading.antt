-- What the words of `run` say, by what was read of them.
use Rattle.std.proofs.Common.{◌≡◌, ◌≢◌, ℕ, ◌+◌, ◌<◌, ◌≤◌, Bool, true, false, Option, Some, None, List, [], ◌∷◌, ◌++◌, length, length-append, codes, unwrap_or, subst, refl, sym, ap, ◌∙◌, inl, inr, arith}
use Rattle.std.specs.Fmt.{decimal}
use Rattle.std.specs.List.{AllByRecursion}
use Rattle.std.proofs.lemmas.List.{append-nil}
use Rattle.unit_port.specs.declared.armed.FaultPlan.{FaultPlan}
use Rattle.unit_port.specs.declared.armed.Fuse.{Fuse}
use Rattle.command_words.specs.Grammar as model
use Rattle.command_words.specs.Grammar.{Item, Name, Named, Flag, AreItemsOf, ArePlans, IsFuse, IsLanes, IsPlan, IsRunOption, IsStop, flags_in, flags_of, names_in, options_in, values_in}
use Rattle.command_words.specs.declared.run.RunNames.{RunNames}
use Rattle.command_words.specs.declared.run.RunWords.{RunWords}
use Rattle.command_words.specs.Words.{AreLanes, AreWordsOf, HasOwnForm, HasReadRun, names_read}
use Rattle.command_words.proofs.Items.{all_at, flags_in-append, names_in-append, next_value, options_in-append, same_flags, same_values_in}
use Rattle.command_words.proofs.OptionValues.{own_by_test}
use Rattle.command_words.proofs.PlanWords.{one_more, plan_said, same_plans, too_many}
use Rattle.command_words.proofs.Reading.{IsReading, all_read, plain_all, spelled_whole}
use Rattle.command_words.proofs.StopWords.{no_two, no_word, one_stop, said, same_number}
use Rattle.pblk_model.proofs.Lists.{all_append}

-- what has been read, by its parts
abbrev pub read_as : RunNames → Option Fuse → List FaultPlan → Option ℕ → Bool → RunWords
read_as names stop plans lanes collector = record { names = names; stop = stop; plans = plans; lanes = lanes; collector = collector }

-- these items were read so far, by its parts
abbrev pub HasParts : RunNames → Option Fuse → List FaultPlan → Option ℕ → Bool → List Item → Type 0
HasParts names stop plans lanes collector items = HasReadRun items (read_as names stop plans lanes collector)

-- The next item.

pub with_name : (items : List Item) (name : List ℕ) (old : RunWords) (names : RunNames) → names_read names ≡ names_read old.names ++ name ∷ []
    → HasReadRun items old → HasReadRun (items ++ Name name ∷ []) (read_as names old.stop old.plans old.lanes old.collector)
with_name items name old names are h = record {
  names = names_in-append items (Name name ∷ []) ∙ ap (λ xs. xs ++ name ∷ []) h.names ∙ sym are;
  known = rw options_in-append (all_append IsRunOption (options_in items) [] h.known tt);
  stop = rw (same_values_in (codes "stop") (Name name) items refl) h.stop;
  plans = rw (same_values_in (codes "fail") (Name name) items refl) h.plans;
  few = h.few;
  lanes = rw (same_values_in (codes "lanes") (Name name) items refl) h.lanes;
  flags = same_flags (Name name) items refl ∙ h.flags;
}

pub third_name : (items more : List Item) (name image script : List ℕ) (options : model.RunOptions) (old : RunWords) → length (names_read old.names) ≡ 2
    → HasReadRun items old → AreItemsOf (items ++ Name name ∷ more) (model.Run image script options) → ⊥
third_name items more name image script options old two h of =
    let are : names_read old.names ++ name ∷ names_in more ≡ image ∷ script ∷ [] =
    sym (names_in-append items (Name name ∷ more) ∙ ap (λ xs. xs ++ name ∷ names_in more) h.names) ∙ of.0 in
    omega (arith, ap length are, length-append (names_read old.names) (name ∷ names_in more), two)

-- the names and the options, with an option of this name
same_names : (items : List Item) (name value : List ℕ) (xs : List (List ℕ)) → names_in items ≡ xs → names_in (items ++ Named name value ∷ []) ≡ xs
same_names items name value xs h = names_in-append items (Named name value ∷ []) ∙ append-nil (names_in items) ∙ h

more_known : (items : List Item) (name value : List ℕ) → AllByRecursion IsRunOption (options_in items) → IsRunOption name
    → AllByRecursion IsRunOption (options_in (items ++ Named name value ∷ []))
more_known items name value known is = rw options_in-append (all_append IsRunOption (options_in items) (name ∷ []) known (is, tt))

pub with_stop : (items : List Item) (value : List ℕ) (f : Fuse) (old : RunWords) → old.stop ≡ None → IsFuse f value → HasReadRun items old
    → HasReadRun (items ++ Named (codes "stop") value ∷ []) (read_as old.names (Some f) old.plans old.lanes old.collector)
with_stop items value f old free is h =
    let fresh : values_in (codes "stop") items ≡ [] = no_word old.stop (values_in (codes "stop") items) free h.stop in
    let now : values_in (codes "stop") (items ++ Named (codes "stop") value ∷ []) ≡ value ∷ [] =
    next_value (codes "stop") value items [] ∙ ap (λ xs. xs ++ value ∷ []) fresh in
    record {
      names = same_names items (codes "stop") value _ h.names;
      known = more_known items (codes "stop") value h.known (inl refl);
      stop = rw now is;
      plans = rw (same_values_in (codes "fail") (Named (codes "stop") value) items refl) h.plans;
      few = h.few;
      lanes = rw (same_values_in (codes "lanes") (Named (codes "stop") value) items refl) h.lanes;
      flags = same_flags (Named (codes "stop") value) items refl ∙ h.flags;
    }

pub with_plan : (items : List Item) (value : List ℕ) (p : FaultPlan) (plans : List FaultPlan) (old : RunWords) → length old.plans < 16 → IsPlan p value
    → plans ≡ old.plans ++ p ∷ [] → HasReadRun items old
    → HasReadRun (items ++ Named (codes "fail") value ∷ []) (read_as old.names old.stop plans old.lanes old.collector)
with_plan items value p plans old room is are h =
    let now : values_in (codes "fail") (items ++ Named (codes "fail") value ∷ []) ≡ values_in (codes "fail") items ++ value ∷ [] =
    next_value (codes "fail") value items [] in
    let count : length (old.plans ++ p ∷ []) ≡ length old.plans + 1 = length-append old.plans (p ∷ []) in
    record {
      names = same_names items (codes "fail") value _ h.names;
      known = more_known items (codes "fail") value h.known (inr (inl refl));
      stop = rw (same_values_in (codes "stop") (Named (codes "fail") value) items refl) h.stop;
      plans = rw (are, now) (one_more p value old.plans (values_in (codes "fail") items) h.plans is);
      few = rw are (omega (arith, count, room));
      lanes = rw (same_values_in (codes "lanes") (Named (codes "fail") value) items refl) h.lanes;
      flags = same_flags (Named (codes "fail") value) items refl ∙ h.flags;
    }

no_lanes : (o : Option ℕ) (words : List (List ℕ)) → o ≡ None → AreLanes o words → words ≡ []
no_lanes None words e h = h
no_lanes (Some n) words e h = absurd (cc e)

pub with_lanes : (items : List Item) (value : List ℕ) (n : ℕ) (old : RunWords) → old.lanes ≡ None → value ≡ decimal n → n ≤ 8 → HasReadRun items old
    → HasReadRun (items ++ Named (codes "lanes") value ∷ []) (read_as old.names old.stop old.plans (Some n) old.collector)
with_lanes items value n old free is few h =
    let fresh : values_in (codes "lanes") items ≡ [] = no_lanes old.lanes (values_in (codes "lanes") items) free h.lanes in
    let now : values_in (codes "lanes") (items ++ Named (codes "lanes") value ∷ []) ≡ value ∷ [] =
    next_value (codes "lanes") value items [] ∙ ap (λ xs. xs ++ value ∷ []) fresh in
    record {
      names = same_names items (codes "lanes") value _ h.names;
      known = more_known items (codes "lanes") value h.known (inr (inr refl));
      stop = rw (same_values_in (codes "stop") (Named (codes "lanes") value) items refl) h.stop;
      plans = rw (same_values_in (codes "fail") (Named (codes "lanes") value) items refl) h.plans;
      few = h.few;
      lanes = (now ∙ ap (λ xs. xs ∷ []) is, few);
      flags = same_flags (Named (codes "lanes") value) items refl ∙ h.flags;
    }

pub with_collector : (items : List Item) (name : List ℕ) (old : RunWords) → old.collector ≡ false → name ≡ codes "collector" → HasReadRun items old
    → HasReadRun (items ++ Flag name ∷ []) (read_as old.names old.stop old.plans old.lanes true)
with_collector items name old free is h = record {
  names = names_in-append items (Flag name ∷ []) ∙ append-nil (names_in items) ∙ h.names;
  known = rw options_in-append (all_append IsRunOption (options_in items) [] h.known tt);
  stop = rw (same_values_in (codes "stop") (Flag name) items refl) h.stop;
  plans = rw (same_values_in (codes "fail") (Flag name) items refl) h.plans;
  few = h.few;
  lanes = rw (same_values_in (codes "lanes") (Flag name) items refl) h.lanes;
  flags = flags_in-append items (Flag name ∷ []) ∙ ap (λ xs. xs ++ name ∷ []) (h.flags ∙ ap flags_of free) ∙ ap (λ xs. xs ∷ []) is;
}

-- a name that is no option's
pub other_option : (items more : List Item) (name value image script : List ℕ) (options : model.RunOptions) → name ≢ codes "stop" → name ≢ codes "fail"
    → name ≢ codes "lanes" → AreItemsOf (items ++ Named name value ∷ more) (model.Run image script options) → ⊥
other_option items more name value image script options no_stop no_plan no_lanes of =
    elim (all_at IsRunOption (options_in items) name (options_in more) (rw options_in-append at of.1)) [
      | inl is ↦ no_stop is
      | inr (inl is) ↦ no_plan is
      | inr (inr is) ↦ no_lanes is
    ]

-- an option that was named before
pub second_stop : (items more : List Item) (value image script : List ℕ) (options : model.RunOptions) (old : RunWords) (f : Fuse)
    → old.stop ≡ Some f → HasReadRun items old → AreItemsOf (items ++ Named (codes "stop") value ∷ more) (model.Run image script options) → ⊥
second_stop items more value image script options old f is h of =
    no_two old.stop options.stop f (values_in (codes "stop") items) (values_in (codes "stop") more) value is h.stop
    (subst (IsStop options.stop) (next_value (codes "stop") value items more) of.2)

-- a value that is no stop
pub other_stop : (items more : List Item) (value image script : List ℕ) (options : model.RunOptions) (old : RunWords) → old.stop ≡ None
    → ((f : Fuse) → ¬ IsFuse f value) → HasReadRun items old
    → AreItemsOf (items ++ Named (codes "stop") value ∷ more) (model.Run image script options) → ⊥
other_stop items more value image script options old free none h of =
    let fresh : values_in (codes "stop") items ≡ [] = no_word old.stop (values_in (codes "stop") items) free h.stop in
    let is = said options.stop value (values_in (codes "stop") more)
    (subst (IsStop options.stop) (next_value (codes "stop") value items more ∙ ap (λ xs. xs ++ value ∷ values_in (codes "stop") more) fresh) of.2) in
    none is.0 is.1

-- a value that is no plan
pub other_plan : (items more : List Item) (value image script : List ℕ) (options : model.RunOptions) → ((p : FaultPlan) → ¬ IsPlan p value)
    → AreItemsOf (items ++ Named (codes "fail") value ∷ more) (model.Run image script options) → ⊥
other_plan items more value image script options none of =
    let is = plan_said options.plans value (values_in (codes "fail") items) (values_in (codes "fail") more)
    (subst (ArePlans options.plans) (next_value (codes "fail") value items more) of.3) in
    none is.0 is.1

-- one plan more than there may be
pub full_plans : (items more : List Item) (value image script : List ℕ) (options : model.RunOptions) (old : RunWords) → length old.plans ≡ 16
    → HasReadRun items old → AreItemsOf (items ++ Named (codes "fail") value ∷ more) (model.Run image script options) → ⊥
full_plans items more value image script options old full h of =
    too_many 16 old.plans options.plans value (values_in (codes "fail") items) (values_in (codes "fail") more) full h.plans
    (subst (ArePlans options.plans) (next_value (codes "fail") value items more) of.3) of.4

-- lanes that were named before
two_words : (n : ℕ) (words more : List (List ℕ)) (word first : List ℕ) → words ≡ first ∷ [] → IsLanes n (words ++ word ∷ more) → ⊥
two_words n [] more word first e h = absurd (cc e)
two_words n (x ∷ []) more word first e h = h
two_words n (x ∷ (y ∷ words)) more word first e h = absurd (cc e)

lanes_word : (o : Option ℕ) (n : ℕ) (words : List (List ℕ)) → o ≡ Some n → AreLanes o words → (word : List ℕ) × (words ≡ word ∷ [])
lanes_word None n words e h = absurd (cc e)
lanes_word (Some m) n words e h = (decimal m, h.0)

pub second_lanes : (items more : List Item) (value image script : List ℕ) (options : model.RunOptions) (old : RunWords) (n : ℕ)
    → old.lanes ≡ Some n → HasReadRun items old → AreItemsOf (items ++ Named (codes "lanes") value ∷ more) (model.Run image script options) → ⊥
second_lanes items more value image script options old n is h of =
    let first = lanes_word old.lanes n (values_in (codes "lanes") items) is h.lanes in
    two_words options.lanes (values_in (codes "lanes") items) (values_in (codes "lanes") more) value first.0 first.1
    (subst (IsLanes options.lanes) (next_value (codes "lanes") value items more) of.5)

-- a value that is no number of lanes
lanes_said : (n : ℕ) (word : List ℕ) (words : List (List ℕ)) → IsLanes n (word ∷ words) → (word ≡ decimal n) × (n ≤ 8)
lanes_said n word [] h = h
lanes_said n word (other ∷ words) h = absurd h

pub other_lanes : (items more : List Item) (value image script : List ℕ) (options : model.RunOptions) (old : RunWords) → old.lanes ≡ None
    → ((n : ℕ) → n ≤ 8 → value ≢ decimal n) → HasReadRun items old
    → AreItemsOf (items ++ Named (codes "lanes") value ∷ more) (model.Run image script options) → ⊥
other_lanes items more value image script options old free none h of =
    let fresh : values_in (codes "lanes") items ≡ [] = no_lanes old.lanes (values_in (codes "lanes") items) free h.lanes in
    let is = lanes_said options.lanes value (values_in (codes "lanes") more)
    (subst (IsLanes options.lanes) (next_value (codes "lanes") value items more ∙ ap (λ xs. xs ++ value ∷ values_in (codes "lanes") more) fresh) of.5) in
    none options.lanes is.1 is.0

-- another flag, or that of the collector a second time
flags_after : (items more : List Item) (name image script : List ℕ) (options : model.RunOptions) (old : RunWords) → HasReadRun items old
    → AreItemsOf (items ++ Flag name ∷ more) (model.Run image script options) → flags_of old.collector ++ name ∷ flags_in more ≡ flags_of options.collector
flags_after items more name image script options old h of =
    sym (flags_in-append items (Flag name ∷ more) ∙ ap (λ xs. xs ++ name ∷ flags_in more) h.flags) ∙ of.6

one_flag : (collector : Bool) (flags : List (List ℕ)) (name : List ℕ) → name ∷ flags ≡ flags_of collector → name ≡ codes "collector"
one_flag true flags name e = cc e
one_flag false flags name e = absurd (cc e)

two_flags : (collector : Bool) (flags : List (List ℕ)) (first second : List ℕ) → first ∷ second ∷ flags ≡ flags_of collector → ⊥
two_flags true flags first second e = absurd (cc e)
two_flags false flags first second e = absurd (cc e)

pub second_flag : (items more : List Item) (name image script : List ℕ) (options : model.RunOptions) (old : RunWords) → old.collector ≡ true
    → HasReadRun items old → AreItemsOf (items ++ Flag name ∷ more) (model.Run image script options) → ⊥
second_flag items more name image script options old is h of =
    two_flags options.collector (flags_in more) (codes "collector") name
    (ap (λ b. flags_of b ++ name ∷ flags_in more) (sym is) ∙ flags_after items more name image script options old h of)

pub other_flag : (items more : List Item) (name image script : List ℕ) (options : model.RunOptions) (old : RunWords) → old.collector ≡ false
    → name ≢ codes "collector" → HasReadRun items old → AreItemsOf (items ++ Flag name ∷ more) (model.Run image script options) → ⊥
other_flag items more name image script options old free other h of =
    other (one_flag options.collector (flags_in more) name
    (ap (λ b. flags_of b ++ name ∷ flags_in more) (sym free) ∙ flags_after items more name image script options old h of))

-- The end.

run_option : (name : List ℕ) → IsRunOption name → HasOwnForm (Named name [])
run_option name (inl is) = own_by_test name (codes "stop") is refl
run_option name (inr (inl is)) = own_by_test name (codes "fail") is refl
run_option name (inr (inr is)) = own_by_test name (codes "lanes") is refl

run_flags : (collector : Bool) (flags : List (List ℕ)) → flags ≡ flags_of collector → AllByRecursion (λ name. name ≡ codes "collector") flags
run_flags true flags e = rw e (refl, tt)
run_flags false flags e = rw e tt

pub plain_run : (items : List Item) (image script : List ℕ) (options : model.RunOptions) → AreItemsOf items (model.Run image script options)
    → AllByRecursion HasOwnForm items
plain_run items image script options of = plain_all IsRunOption run_option items of.1 (run_flags options.collector (flags_in items) of.6)

-- the items of a command of these words are those that were read
all_of : (words : List (List ℕ)) (w : RunWords) (image script : List ℕ) (options : model.RunOptions) (r : IsReading (λ items. HasReadRun items w) words [])
    → (h : AreWordsOf words (model.Run image script options)) → h.items ≡ r.items
all_of words w image script options r h = all_read (λ items. HasReadRun items w) words r h.items (plain_run h.items image script options h.of) h.spelled

-- the number of lanes where the option is not named
pub lanes_are : (o : Option ℕ) (words : List (List ℕ)) → AreLanes o words → IsLanes (unwrap_or o 0) words
lanes_are None words h = rw h refl
lanes_are (Some n) words h = rw h.0 (refl, h.1)

-- what the options say that were read
abbrev pub options_of : RunWords → model.RunOptions
options_of w = record { stop = w.stop; plans = w.plans; lanes = unwrap_or w.lanes 0; collector = w.collector }

pub end_reading : (words : List (List ℕ)) (w : RunWords) (image script : List ℕ) (r : IsReading (λ items. HasReadRun items w) words [])
    → names_read w.names ≡ image ∷ script ∷ [] → AreWordsOf words (model.Run image script (options_of w))
end_reading words w image script r are = record {
  items = r.items;
  spelled = spelled_whole (λ items. HasReadRun items w) words r;
  of = (r.has.names ∙ are, r.has.known, r.has.stop, r.has.plans, r.has.few, lanes_are w.lanes (values_in (codes "lanes") r.items) r.has.lanes, r.has.flags);
}

pub few_names : (words : List (List ℕ)) (w : RunWords) (image script : List ℕ) (options : model.RunOptions)
    → IsReading (λ items. HasReadRun items w) words [] → length (names_read w.names) ≢ 2 → AreWordsOf words (model.Run image script options) → ⊥
few_names words w image script options r few h =
    let names : names_read w.names ≡ image ∷ script ∷ [] = sym (r.has.names) ∙ sym (ap names_in (all_of words w image script options r h)) ∙ h.of.0 in
    few (ap length names)

one_lanes : (m n : ℕ) (words : List (List ℕ)) → IsLanes m words → IsLanes n words → m ≡ n
one_lanes m n [] h k = h ∙ sym k
one_lanes m n (word ∷ []) h k = same_number m n (omega (arith, h.1)) (omega (arith, k.1)) (sym h.0 ∙ k.0)
one_lanes m n (word ∷ (other ∷ words)) h k = absurd h

one_collector : (b c : Bool) → flags_of b ≡ flags_of c → b ≡ c
one_collector true true e = refl
one_collector true false e = absurd (cc e)
one_collector false true e = absurd (cc e)
one_collector false false e = refl

pub same_run : (words : List (List ℕ)) (w : RunWords) (one other image script : List ℕ) (options : model.RunOptions)
    → IsReading (λ items. HasReadRun items w) words [] → names_read w.names ≡ one ∷ other ∷ [] → AreWordsOf words (model.Run image script options)
    → (one ≡ image) × (other ≡ script) × (options_of w ≡ options)
same_run words w one other image script options r are h =
    let items = all_of words w image script options r h in
    let names : one ∷ other ∷ [] ≡ image ∷ script ∷ [] = sym are ∙ sym (r.has.names) ∙ sym (ap names_in items) ∙ h.of.0 in
    let stop : w.stop ≡ options.stop = one_stop w.stop options.stop (values_in (codes "stop") r.items) r.has.stop (rw items at h.of.2) in
    let plans : w.plans ≡ options.plans = same_plans w.plans options.plans (values_in (codes "fail") r.items) r.has.plans (rw items at h.of.3) in
    let lanes : unwrap_or w.lanes 0 ≡ options.lanes = one_lanes (unwrap_or w.lanes 0) options.lanes (values_in (codes "lanes") r.items)
    (lanes_are w.lanes (values_in (codes "lanes") r.items) r.has.lanes) (rw items at h.of.5) in
    let collector : w.collector ≡ options.collector = one_collector w.collector options.collector (sym (r.has.flags) ∙ (rw items at h.of.6)) in
    (cc names, cc names, λ i. record { stop = stop i; plans = plans i; lanes = lanes i; collector = collector i })
