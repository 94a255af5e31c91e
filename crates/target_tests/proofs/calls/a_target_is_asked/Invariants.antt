use Rattle.target_tests.proofs.calls.a_target_is_asked.Given as goal

abbrev pub ghosts-ask_all : goal.ghosts-ask_all
ghosts-ask_all g a = record {
  chronicle = a.opened.chronicle;
  past = a.opened.past;
  ring = a.opened.ring;
  key = a.opened.key;
  handed = a.opened.handed;
  wear = a.opened.wear;
}
