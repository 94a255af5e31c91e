use Rattle.lane_tests.proofs.held.open_and_serve.Given as goal

abbrev pub ghosts-serve : goal.ghosts-serve
ghosts-serve g a = record {
  chronicle = a.opened.chronicle;
  past = a.opened.past;
  ring = a.opened.ring;
  key = a.opened.key;
  handed = a.opened.handed;
  wear = a.opened.wear;
}
