mod Reading
