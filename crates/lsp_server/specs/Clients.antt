-- The clients that a program serves: that of its standard input and output, those of a socket, or one that listens
-- itself.
use Rattle.std.specs.Prelude.{Option, Some, None, ℕ, List}
use Rattle.lsp_server.specs.Words.{Channel, standard, address, port, pipe, refused}
use Rattle.lsp_server.specs.declared.clients.ClientReader.{ClientReader}
use Rattle.lsp_server.specs.declared.clients.ClientReader.TheVariants.{Standard as ReaderStandard}
use Rattle.lsp_server.specs.declared.clients.ClientReader.TheVariants.{Socket as ReaderSocket, Pipe as ReaderPipe}
use Rattle.lsp_server.specs.declared.clients.ClientWriter.{ClientWriter}
use Rattle.lsp_server.specs.declared.clients.ClientWriter.TheVariants.{Standard as WriterStandard}
use Rattle.lsp_server.specs.declared.clients.ClientWriter.TheVariants.{Socket as WriterSocket, Pipe as WriterPipe}

-- what a session is held over
pub data Medium : Type 0 where
  streams : Medium
  socket : Medium
  file : Medium

-- where one client is served, and its outcome handed on, the medium of its session
abbrev pub medium_of : Channel → Option Medium
medium_of standard = Some streams
medium_of (address text) = None
medium_of (port text) = Some socket
medium_of (pipe name) = Some file
medium_of refused = None

abbrev pub reader_medium : {I S P : Type 0} → ClientReader I S P → Medium
reader_medium (ReaderStandard input) = streams
reader_medium (ReaderSocket stream) = socket
reader_medium (ReaderPipe stream) = file

abbrev pub writer_medium : {O S P : Type 0} → ClientWriter O S P → Medium
writer_medium (WriterStandard output) = streams
writer_medium (WriterSocket stream) = socket
writer_medium (WriterPipe stream) = file

-- the bytes that reads of a client will give from here on, where they are known: those of the end that is read
abbrev pub client_remaining : {I S P : Type 0} → (I → Option (List ℕ)) → (S → Option (List ℕ)) → (P → Option (List ℕ))
    → ClientReader I S P → Option (List ℕ)
client_remaining of_input of_socket of_file (ReaderStandard input) = of_input input
client_remaining of_input of_socket of_file (ReaderSocket stream) = of_socket stream
client_remaining of_input of_socket of_file (ReaderPipe stream) = of_file stream

-- the bytes that a client was written, where they are known: those of the end that is written to
abbrev pub client_contents : {O S P : Type 0} → (O → Option (List ℕ)) → (S → Option (List ℕ)) → (P → Option (List ℕ))
    → ClientWriter O S P → Option (List ℕ)
client_contents of_output of_socket of_file (WriterStandard output) = of_output output
client_contents of_output of_socket of_file (WriterSocket stream) = of_socket stream
client_contents of_output of_socket of_file (WriterPipe stream) = of_file stream
