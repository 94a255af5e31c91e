use Rattle.target_tests.proofs.harness.told.Given as goal

abbrev pub ghosts-told_of : goal.ghosts-told_of
ghosts-told_of g a = record {
  chronicle = a.opened.chronicle;
  past = a.opened.past;
  ring = a.opened.ring;
  key = a.opened.key;
  handed = a.opened.handed;
  wear = a.opened.wear;
}
